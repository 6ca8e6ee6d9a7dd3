use Rattle.std.proofs.Common.{◌≡◌, ℕ, ◌<◌, List, length, get_or, vec_items, sym, refl, ap, ◌∙◌, rules}
use Rattle.sets.specs.Placings.{values}
use Rattle.rows.specs.Bytes.{Bytes}
use Rattle.search.specs.Search.{Status}
use Rattle.search.specs.Calls.{Answer}
use Rattle.search.specs.Calls.Call.{read}
use Rattle.table.specs.Searches.{status_of, levels_of}
use Rattle.table.specs.Shown.{model, store_in, rows_in}
use Rattle.table.proofs.Calling.{extends_by, refuses_by, reads_by, not_found, found_status}
use Rattle.table.proofs.Judging.{nothing_found, short_buffer, buffer_fits}
use Rattle.table.proofs.table.Table.read.Goals as goal

pub returns-in-Stopped : goal.returns-in-Stopped
returns-in-Stopped g c =
    let m = g.B.Bank.meaning in
    let t = c.args.self.now in
    let v = store_in t in
    let b = c.args.out.now in
    let f : Bytes b = λ i l. (c.type_inv.out i).fits in
    let d = refuses_by g.S.Store.behaviour m (model t) v (read b) 15 (nothing_found m (model t) b (not_found c.outcome.result (status_of t.search) c.in-Stopped.is c.outcome.ensures)) in
    record { does = d; history = extends_by g.S.Store.behaviour m g.met.B.Bank.lawful (model t) v (read b) (Answer.refused 15) (model t) v f d; buffer = refl }

pub returns-then-out-sets : goal.returns-then-out-sets
returns-then-out-sets g c =
    let m = g.B.Bank.meaning in
    let t = c.args.self.now in
    let s = t.search in
    let v = store_in t in
    let b = c.args.out.now in
    let f : Bytes b = λ i l. (c.type_inv.out i).fits in
    let e : status_of s ≡ Status.satisfied (values c.sets-sets.result.now) =
    found_status s.end (vec_items s.sets) (levels_of s) c.in-Found.ensures ∙ ap (λ (x : List ℕ). Status.satisfied (values x)) (sym c.sets-sets.ensures) in
    let d = refuses_by g.S.Store.behaviour m (model t) v (read b) 16 (short_buffer m (model t) c.sets-sets.result.now b e c.if-out-sets.true) in
    record { does = d; history = extends_by g.S.Store.behaviour m g.met.B.Bank.lawful (model t) v (read b) (Answer.refused 16) (model t) v f d; buffer = refl }

pub returns : goal.returns
returns g c =
    let m = g.B.Bank.meaning in
    let t = c.args.self.now in
    let s = t.search in
    let v = store_in t in
    let b = c.args.out.now in
    let f : Bytes b = λ i l. let k : get_or b i 0 < 256 = search rules in k in
    let e : status_of s ≡ Status.satisfied (values c.sets-sets.result.now) =
    found_status s.end (vec_items s.sets) (levels_of s) c.in-Found.ensures ∙ ap (λ (x : List ℕ). Status.satisfied (values x)) (sym c.sets-sets.ensures) in
    let d = reads_by g.S.Store.behaviour m (vec_items t.voices) (rows_in t) s v c.sets-sets.result.now b c.write_values.new.out e c.write_values.ensures
    (buffer_fits m (model t) c.sets-sets.result.now b e c.if-out-sets.false) in
    record {
      does = d;
      history = extends_by g.S.Store.behaviour m g.met.B.Bank.lawful (model t) v (read b) (Answer.wrote (length c.sets-sets.result.now) c.write_values.new.out) (model t) v f d;
      buffer = tt;
    }
