use Rattle.std.proofs.Common.{◌≡◌, ℕ, ◌+◌, ◌-◌, ◌*◌, ◌%◌, ◌^◌, ◌<◌, ◌≤◌, List, [], ◌∷◌, length, get_or, take, drop, refl, sym, ap, ap₂, ◌∙◌, arith, rules}
use Rattle.std.proofs.lemmas.List.{take_all, length-drop}
use Rattle.std.specs.List.{fold}
use Rattle.stores.specs.Shelves.{mixed, hash_from}
use Rattle.stores.proofs.words.hash_words.Goals as goal

abbrev step : ℕ → ℕ → ℕ → ℕ → ℕ
step m b c d = (m + b * 0xC2B2AE3D27D4EB4F + c * 0x165667B19E3779F9 + d * 0xD6E8FEB86659FD93) % 2 ^ 64

-- four words more
four : (h : ℕ) (ws : List ℕ) → 4 ≤ length ws → hash_from h ws ≡ hash_from (step (mixed h (get_or ws 0 0)) (get_or ws 1 0) (get_or ws 2 0) (get_or ws 3 0)) (drop 4 ws)
four h [] l = absurd (omega arith)
four h (a ∷ []) l = absurd (omega arith)
four h (a ∷ (b ∷ [])) l = absurd (omega arith)
four h (a ∷ (b ∷ (c ∷ []))) l = absurd (omega arith)
four h (a ∷ (b ∷ (c ∷ (d ∷ ws)))) l = refl

-- the sums and products of 64 bits come to the same
wrapped : (m b c d : ℕ) → (((m + (b * 0xC2B2AE3D27D4EB4F) % 2 ^ 64) % 2 ^ 64 + (c * 0x165667B19E3779F9) % 2 ^ 64) % 2 ^ 64 + (d * 0xD6E8FEB86659FD93) % 2 ^ 64) % 2 ^ 64 ≡ step m b c d
wrapped m b c d = omega arith

-- the last words, fewer than four
few : (h : ℕ) (ws : List ℕ) → length ws < 4 → fold mixed h ws ≡ hash_from h ws
few h [] l = refl
few h (a ∷ []) l = refl
few h (a ∷ (b ∷ [])) l = refl
few h (a ∷ (b ∷ (c ∷ []))) l = refl
few h (a ∷ (b ∷ (c ∷ (d ∷ ws)))) l = absurd (omega arith)

pub loop-left-preserved : goal.loop-left-preserved
loop-left-preserved c =
    let left = c.loop-left.left.now in
    let rest : take (length c.loop-left.left.now - 4) (drop 4 c.loop-left.left.now) ≡ drop 4 c.loop-left.left.now = take_all (length c.loop-left.left.now - 4) (drop 4 c.loop-left.left.now) (omega (arith, length-drop 4 c.loop-left.left.now)) in
    ap₂ hash_from (wrapped c.mix.result (get_or left 1 0) (get_or left 2 0) (get_or left 3 0) ∙ ap (λ (m : ℕ). step m (get_or left 1 0) (get_or left 2 0) (get_or left 3 0)) c.mix.ensures) rest
    ∙ sym (four c.loop-left.hash left c.in-len4-up.len_at_least) ∙ c.loop-left.invariant

pub returns : goal.returns
returns c =
    let steps : c.fold.result ≡ fold mixed c.loop-left.hash c.loop-left.left.now = search rules in
    steps ∙ few c.loop-left.hash c.loop-left.left.now c.in_default.len_below ∙ c.loop-left.invariant
