use Rattle.std.proofs.Common.{◌≡◌, ℕ, List, vec_items, sym, ◌∙◌, subst₂}
use Rattle.std.specs.Vec.{with_items}
use Rattle.std.proofs.lemmas.List.{with_items_is}
use Rattle.search.specs.Calls.{Answer, Does}
use Rattle.search.specs.Calls.Call.{read}
use Rattle.table.specs.Shown.{model, store_in}
use Rattle.table.specs.CallLaws.{ExtendsHistories}
use Rattle.histories.proofs.perform.perform_read.Goals as goal

pub returns-in-Ok : goal.returns-in-Ok
returns-in-Ok g c =
    let b = g.S.Store.behaviour in
    let m = g.B.Bank.meaning in
    let t = c.args.table.now in
    let v = store_in t in
    let out = c.read.new.out in
    let e : ◌≡◌ {A = List ℕ} c.deref_mut.result.now c.args.bytes.now = c.deref_mut.ensures.value ∙ c.in_ok-buffer.ensures.items_if_clones_equal (λ x y e. e) in
    let f : ◌≡◌ {A = List ℕ} out (vec_items (with_items c.in_ok-buffer.buffer out)) = sym (with_items_is c.in_ok-buffer.buffer out (c.read.auto.out ∙ c.deref_mut.ensures.len)) in
    let a = λ (x : List ℕ). Answer.wrote c.in-Ok.count x in
    record {
      does = subst₂ (λ (x y : List ℕ). Does b m (model t) v (read x) (a y) (model t) v) e f c.in-Ok.ensures.does;
      history = subst₂ (λ (x y : List ℕ). ExtendsHistories b m (model t) v (read x) (a y) (model t) v) e f c.in-Ok.ensures.history;
    }
