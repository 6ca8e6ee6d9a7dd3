use Rattle.std.proofs.Common.{◌≡◌, ◌≤◌, length, take, vec_items, sym, ap, ◌∙◌, subst, arith}
use Rattle.std.proofs.lemmas.List.{with_items_is}
use Rattle.search.specs.Calls.{Answer, Does}
use Rattle.search.specs.Calls.Call.{solve}
use Rattle.table.specs.Shown.{model, store_in, rows_in}
use Rattle.table.specs.CallLaws.{ExtendsHistories}
use Rattle.histories.proofs.Finding.{status_found, read_wrote, wrote_ok, values_left}
use Rattle.histories.proofs.perform.perform_solve.Goals as goal

pub unwrap-count-requires : goal.unwrap-count-requires
unwrap-count-requires g c =
    let st = g.S.Store.behaviour in
    let m = g.B.Bank.meaning in
    let before = c.args.table.now in
    let t = c.solve.new.self in
    let v = store_in before in
    let w = store_in t in
    let s = t.search in
    let b = c.deref_mut.result.now in
    let e = status_found st m {t = model before} {v = v} {w = w} {b = c.args.budget} (vec_items t.voices) (rows_in t) s c.in-Ok-Found.field-0 c.in-Ok-Found.field-0-is c.in-Ok-Found.ensures.does in
    let h : length (vec_items s.sets) ≤ length b = omega (arith, t.few, t.searched, s.sets.ok, c.deref_mut.ensures.len, c.in_ok-values.ensures.len) in
    wrote_ok c.read.result c.read.new.out _ _ (read_wrote st m {v = w} (vec_items t.voices) (rows_in t) s b c.read.new.out c.read.result e h c.read.ensures.does)

pub returns-in-Ok-Found : goal.returns-in-Ok-Found
returns-in-Ok-Found g c =
    let st = g.S.Store.behaviour in
    let m = g.B.Bank.meaning in
    let before = c.args.table.now in
    let t = c.solve.new.self in
    let v = store_in before in
    let w = store_in t in
    let s = t.search in
    let b = c.deref_mut.result.now in
    let out = c.read.new.out in
    let k = c.unwrap-count.result in
    let e = status_found st m {t = model before} {v = v} {w = w} {b = c.args.budget} (vec_items t.voices) (rows_in t) s c.in-Ok-Found.field-0 c.in-Ok-Found.field-0-is c.in-Ok-Found.ensures.does in
    let h : length (vec_items s.sets) ≤ length b = omega (arith, t.few, t.searched, s.sets.ok, c.deref_mut.ensures.len, c.in_ok-values.ensures.len) in
    let r = read_wrote st m {v = w} (vec_items t.voices) (rows_in t) s b out c.read.result e h c.read.ensures.does in
    let f : vec_items c.truncate.new.self ≡ take k out =
    c.truncate.ensures.items ∙ ap (take k) (with_items_is c.in_ok-values.values out (c.read.auto.out ∙ c.deref_mut.ensures.len)) in
    let a = values_left s b out c.read.result k c.in-Ok-Found.field-0 c.in-Ok-Found.field-0-is c.unwrap-count.ensures e r ∙ ap Answer.found (sym f) in
    record {
      does = subst (λ (x : Answer). Does st m (model before) v (solve c.args.budget) x (model t) w) a c.in-Ok-Found.ensures.does;
      history = subst (λ (x : Answer). ExtendsHistories st m (model before) v (solve c.args.budget) x (model t) w) a c.in-Ok-Found.ensures.history;
      kept = tt;
    }
