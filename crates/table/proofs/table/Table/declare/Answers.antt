use Rattle.std.proofs.Common.{◌^◌, ◌<◌, ◌≤◌, length, vec_items, refl, arith, rules}
use Rattle.search.specs.Calls.{Answer}
use Rattle.search.specs.Calls.Call.{declare}
use Rattle.table.specs.Searches.{table_of}
use Rattle.table.specs.Shown.{model, store_in, rows_in}
use Rattle.table.proofs.Calling.{extends_by, refuses_by, declares_by}
use Rattle.table.proofs.Readying.{ready_voice}
use Rattle.table.proofs.Judging.{empty_set, voices_full, voice_fits}
use Rattle.table.proofs.table.Table.declare.Goals as goal

pub returns-then-set-eq0 : goal.returns-then-set-eq0
returns-then-set-eq0 g c =
    let m = g.B.Bank.meaning in
    let t = c.args.self.now in
    let v = store_in t in
    let fits : c.args.set < 2 ^ 64 = search rules in
    let d = refuses_by g.S.Store.behaviour m (model t) v (declare c.args.set) 10 (empty_set m (model t) c.args.set c.if-set-eq0.true) in
    record { does = d; history = extends_by g.S.Store.behaviour m g.met.B.Bank.lawful (model t) v (declare c.args.set) (Answer.refused 10) (model t) v fits d; refused = refl }

pub returns-then-voices-ge-MOST_VOICES : goal.returns-then-voices-ge-MOST_VOICES
returns-then-voices-ge-MOST_VOICES g c =
    let m = g.B.Bank.meaning in
    let t = c.args.self.now in
    let v = store_in t in
    let fits : c.args.set < 2 ^ 64 = search rules in
    let full : 80 ≤ length (vec_items t.voices) = omega (arith, t.voices.ok.0) in
    let d = refuses_by g.S.Store.behaviour m (model t) v (declare c.args.set) 11 (voices_full m (model t) c.args.set c.if-set-eq0.false full) in
    record { does = d; history = extends_by g.S.Store.behaviour m g.met.B.Bank.lawful (model t) v (declare c.args.set) (Answer.refused 11) (model t) v fits d; refused = refl }

pub invariant_of-self-clause-ready : goal.invariant_of-self-clause-ready
invariant_of-self-clause-ready g c =
    let t = c.args.self.now in
    let some : 0 < c.args.set = omega arith in
    let fits : c.args.set < 2 ^ 64 = search rules in
    ready_voice g.B.Bank.meaning g.met.B.Bank.lawful (rows_in t) (vec_items t.voices) (vec_items c.push_reserved.new.self) c.args.set c.push_reserved.ensures.items some fits t.ready

pub returns : goal.returns
returns g c =
    let m = g.B.Bank.meaning in
    let t = c.args.self.now in
    let s = c.restart.new.self in
    let v = store_in t in
    let w = g.S.Store.state c.clear.new.self in
    let voices = vec_items c.push_reserved.new.self in
    let fits : c.args.set < 2 ^ 64 = search rules in
    let room : length (vec_items t.voices) < 80 = omega (arith, t.voices.ok.0) in
    let d = declares_by g.S.Store.behaviour m (vec_items t.voices) voices (rows_in t) t.search s v w c.args.set _ c.push_reserved.ensures.items c.restart.ensures
    (voice_fits m (model t) c.args.set c.if-set-eq0.false room) c.clear.ensures in
    record { does = d; history = extends_by g.S.Store.behaviour m g.met.B.Bank.lawful (model t) v (declare c.args.set) Answer.done (table_of voices (rows_in t) s) w fits d; refused = tt }
