use Rattle.std.proofs.Common.{◌≡◌, ℕ, Bool, cond, List, ◌++◌, map, length, get_or, drop, sym, ap, ◌∙◌, ap₂, arith}
use Rattle.std.proofs.lemmas.List.{take_all}
use Rattle.stores.specs.Keys.{voice_word}
use Rattle.stores.proofs.Writing.{voices_more}
use Rattle.stores.proofs.key.write_voices.Goals as goal
use Rattle.stores.proofs.key.write_voices.Goals.{then-is_fixed, else-is_fixed}

pub loop-i-preserved : goal.loop-i-preserved
loop-i-preserved c =
    let s = get_or c.args.sets.now c.loop-i.i 0 in
    let word : c.if-is_fixed.words ≡ voice_word (get_or c.args.sets.now c.loop-i.i 0) = elim c.if-is_fixed.branch [
      | then-is_fixed w ↦ w.words-is ∙ ap (λ (b : Bool). cond b 0 (get_or c.args.sets.now c.loop-i.i 0)) (sym w.if-is_fixed.true ∙ c.is_fixed.ensures)
      | else-is_fixed w ↦ w.words-is ∙ ap (λ (b : Bool). cond b 0 (get_or c.args.sets.now c.loop-i.i 0)) (sym w.if-is_fixed.false ∙ c.is_fixed.ensures)
    ] in
    voices_more c.args.sets.now c.args.words.now c.loop-i.words c.loop-i.i c.if-is_fixed.words c.loop-i-test.true (omega arith) c.loop-i.invariant word

pub returns : goal.returns
returns c =
    let end : c.loop-i.i ≡ length c.args.sets.now = omega (arith, c.loop-i-test.false, c.loop-i.auto.i-end) in
    c.loop-i.invariant
    ∙ ap₂ (λ (x : List ℕ) (n : ℕ). map voice_word x ++ drop n c.args.words.now) (take_all c.loop-i.i c.args.sets.now c.loop-i-test.false) end
