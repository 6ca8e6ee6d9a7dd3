use Rattle.std.proofs.Common.{◌+◌, ◌-◌, length, Ok, sym, ap, ◌∙◌, subst, arith, rules}
use Rattle.std.proofs.lemmas.List.{take_rest, length-drop}
use Rattle.rows.specs.Bytes.{Bytes}
use Rattle.table.specs.Shown.{model, store_in}
use Rattle.sheets.proofs.Steps.{Left, all_left, at_left, more_left, ended, faulted}
use Rattle.sheets.proofs.load.read_records.Goals as goal

pub loop-length-init : goal.loop-length-init
loop-length-init g c =
    let b : Bytes c.args.bytes.now = λ i l. (c.type_inv.bytes i).fits in
    all_left g.S.Store.behaviour g.B.Bank.meaning c.args.bytes.now (store_in c.args.table.now) (model c.args.table.now) b c.requires

pub slice_bounds-rest-count : goal.slice_bounds-rest-count
slice_bounds-rest-count g c = (more_left c.loop-length.invariant c.in-Ok-Some.length (c.in-Ok-Some.is ∙ ap Ok c.in-Ok-Some.field-0-is) c.read_record.ensures).1

pub slice_bounds-rest-start : goal.slice_bounds-rest-start
slice_bounds-rest-start g c = let inside = (more_left c.loop-length.invariant c.in-Ok-Some.length (c.in-Ok-Some.is ∙ ap Ok c.in-Ok-Some.field-0-is) c.read_record.ensures).1 in search rules

pub loop-length-smaller : goal.loop-length-smaller
loop-length-smaller g c =
    let more = more_left c.loop-length.invariant c.in-Ok-Some.length (c.in-Ok-Some.is ∙ ap Ok c.in-Ok-Some.field-0-is) c.read_record.ensures in
    omega (arith, more.0, more.1, ap length (take_rest c.loop-length.rest.now c.in-Ok-Some.length), length-drop c.in-Ok-Some.length c.loop-length.rest.now)

pub loop-length-preserved : goal.loop-length-preserved
loop-length-preserved g c =
    subst (Left g.S.Store.behaviour g.B.Bank.meaning c.args.bytes.now (store_in c.args.table.now) (model c.read_record.new.table) (store_in c.read_record.new.table))
    (sym (take_rest c.loop-length.rest.now c.in-Ok-Some.length)) (more_left c.loop-length.invariant c.in-Ok-Some.length (c.in-Ok-Some.is ∙ ap Ok c.in-Ok-Some.field-0-is) c.read_record.ensures).2

pub returns-in-Ok-None : goal.returns-in-Ok-None
returns-in-Ok-None g c =
    let bs = c.args.bytes.now in
    let t = c.loop-length.table in
    let L = c.loop-length.invariant in
    ended g.S.Store.behaviour g.B.Bank.meaning bs (store_in c.args.table.now) (model t) (store_in t) (length bs - length c.loop-length.rest.now) L.so_far
    (model c.read_record.new.table) (store_in c.read_record.new.table) (at_left L (c.in-Ok-None.is ∙ ap Ok c.in-Ok-None.field-0-is) c.read_record.ensures)

pub returns-in-Err : goal.returns-in-Err
returns-in-Err g c =
    let bs = c.args.bytes.now in
    let t = c.loop-length.table in
    let L = c.loop-length.invariant in
    let at = length bs - length c.loop-length.rest.now in
    faulted g.S.Store.behaviour g.B.Bank.meaning bs (store_in c.args.table.now) (model t) (store_in t) at L.so_far g.met.B.Bank.lawful c.in-Err.cause (at + c.offset.result)
    (model c.read_record.new.table) (store_in c.read_record.new.table) (ap (λ n. at + n) c.offset.ensures) (at_left L c.in-Err.is c.read_record.ensures)
