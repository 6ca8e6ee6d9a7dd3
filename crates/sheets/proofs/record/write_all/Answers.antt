use Rattle.rows.proofs.Texts.{wrote_none, wrote_more}
use Rattle.sheets.proofs.record.write_all.Goals as goal

pub loop-item-init : goal.loop-item-init
loop-item-init g c = wrote_none c.args.writer.now

pub loop-item-preserved : goal.loop-item-preserved
loop-item-preserved g c =
    wrote_more g.T.Record.bytes c.args.items.now c.loop-item.item-index c.item-item.result c.loop-item-test.true c.item-item.is c.loop-item.invariant c.write.ensures
