use Rattle.std.proofs.Common.{◌≡◌, ◌||◌, get_or, ap, ◌∙◌, ap₂, rules}
use Rattle.rows.specs.Views.{row_of}
use Rattle.sets.specs.Sets.{has, mask, sift}
use Rattle.kinds.specs.Entries.{reached, narrow_result, narrow_index}
use Rattle.rows.proofs.Cuts.{Small}
use Rattle.kinds.proofs.EntrySteps.{matches, index_cut, result_cut, both_steps}
use Rattle.kinds.proofs.element.ElementKind.turn.Goals as goal

pub returns : goal.returns
returns c =
    let r = row_of c.args.row.now in
    let s = c.args.sets.now in
    let u = c.keep_only.new.sets in
    let t = c.keep_only-2.new.sets in
    let x = c.index_voice-index.result in
    let y = c.result_voice-result.result in
    let xs = c.set_of.result in
    let ys = c.set_of-2.result in
    let kept = c.matching-kept.result.0 in
    let named = c.matching-kept.result.1 in
    let small : Small s = λ i. search rules in
    let same = c.members.ensures in
    let ys_is = c.set_of-2.ensures ∙ ap (λ i. get_or s i 0) c.result_voice-result.ensures in
    let kept_is : kept ≡ sift (matches r.members ys) xs = c.matching-kept.ensures.kept ∙ ap (λ l. sift (matches l ys) xs) same in
    let named_is : named ≡ mask 64 (reached r.members (has kept)) = c.matching-kept.ensures.named ∙ ap (λ l. mask 64 (reached l (has kept))) same in
    let first : u ≡ narrow_index r s = c.keep_only.ensures.after ∙ index_cut r s x xs ys kept c.index_voice-index.ensures c.set_of.ensures ys_is kept_is in
    let second : t ≡ narrow_result r u =
    c.keep_only-2.ensures.after ∙ result_cut r s u x y xs ys kept named c.index_voice-index.ensures c.result_voice-result.ensures c.set_of.ensures ys_is kept_is named_is first
    in
    record { after = second ∙ ap (narrow_result r) first; value = ap₂ ◌||◌ c.keep_only.ensures.value c.keep_only-2.ensures.value ∙ both_steps r t u s small first second }
