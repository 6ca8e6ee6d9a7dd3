-- The refusals of the calls, in the order of their numbers.
use Rattle.std.proofs.Common.{◌≡◌, ℕ, ◌+◌, ◌<◌, ◌≤◌, Bool, true, false, not, ◌&&◌, ◌||◌, eqb, ltb, leb, ◌⊎◌, List, [], ◌∷◌, length, ap, ◌∙◌, inl, inr}
use Rattle.std.proofs.lemmas.List.{length-map}
use Rattle.std.proofs.lemmas.Bool.{or_left, or_right, or_from, and_left, and_right, and_from, not_from_true, not_from_false, eq-eqb, ne_eqb, lt-ltb, le-ltb, le-leb, lt-leb}
use Rattle.sets.specs.Sets.{least}
use Rattle.sets.specs.Placings.{values}
use Rattle.rows.specs.Rows.{Meaning}
use Rattle.rows.specs.declared.limits.TheConstants.{MOST_VOICES, MOST_BUDGET, MOST_OPENED}
use Rattle.search.specs.Search.{Status}
use Rattle.rows.specs.Reasons.{judge}
use Rattle.search.specs.Calls.{TableData, judged, over, is_found, result}
use Rattle.search.specs.Calls.Call.{declare, solve, read}
use Rattle.rows.specs.Reasons.Judgement.{passes, refused_under}

pub judge_here : (n : ℕ) (f : Bool) (rs : List (ℕ × Bool)) → f ≡ true → judge ((n, f) ∷ rs) ≡ refused_under n
judge_here n f rs e = ap (λ (b : Bool). judge ((n, b) ∷ rs)) e

pub judge_next : (n : ℕ) (f : Bool) (rs : List (ℕ × Bool)) → f ≡ false → judge ((n, f) ∷ rs) ≡ judge rs
judge_next n f rs e = ap (λ (b : Bool). judge ((n, b) ∷ rs)) e

-- ---- Declare

pub empty_set : (m : Meaning) (t : TableData) (s : ℕ) → s ≡ 0 → judged m t (declare s) ≡ refused_under 10
empty_set m t s e = judge_here 10 (eqb s 0) ((11, leb MOST_VOICES (length t.voices)) ∷ []) (eq-eqb s 0 e)

pub voices_full : (m : Meaning) (t : TableData) (s : ℕ) → (s ≡ 0 → ⊥) → MOST_VOICES ≤ length t.voices → judged m t (declare s) ≡ refused_under 11
voices_full m t s e h =
    judge_next 10 (eqb s 0) ((11, leb MOST_VOICES (length t.voices)) ∷ []) (ne_eqb s 0 e)
    ∙ judge_here 11 (leb MOST_VOICES (length t.voices)) [] (le-leb MOST_VOICES (length t.voices) h)

pub voice_fits : (m : Meaning) (t : TableData) (s : ℕ) → (s ≡ 0 → ⊥) → length t.voices < MOST_VOICES → judged m t (declare s) ≡ passes
voice_fits m t s e h =
    judge_next 10 (eqb s 0) ((11, leb MOST_VOICES (length t.voices)) ∷ []) (ne_eqb s 0 e)
    ∙ judge_next 11 (leb MOST_VOICES (length t.voices)) [] (lt-leb MOST_VOICES (length t.voices) h)

-- ---- Solve

spent : TableData → ℕ → Bool
spent t b = not (over t.status) && ltb MOST_OPENED (t.opened + b)

pub budget_range : (m : Meaning) (t : TableData) (b : ℕ) → (b ≡ 0) ⊎ ((b ≡ 0 → ⊥) × (MOST_BUDGET < b)) → judged m t (solve b) ≡ refused_under 13
unfolding spent
budget_range m t b (inl e) = judge_here 13 (eqb b 0 || ltb MOST_BUDGET b) ((14, spent t b) ∷ []) (or_left (eqb b 0) (ltb MOST_BUDGET b) (eq-eqb b 0 e))
budget_range m t b (inr h) = judge_here 13 (eqb b 0 || ltb MOST_BUDGET b) ((14, spent t b) ∷ []) (or_right (eqb b 0) (ltb MOST_BUDGET b) (lt-ltb MOST_BUDGET b h.1))

in_range : (m : Meaning) (t : TableData) (b : ℕ) → (b ≡ 0 → ⊥) → b ≤ MOST_BUDGET → judged m t (solve b) ≡ judge ((14, spent t b) ∷ [])
unfolding spent
in_range m t b n h = judge_next 13 (eqb b 0 || ltb MOST_BUDGET b) ((14, spent t b) ∷ []) (or_from (eqb b 0) (ltb MOST_BUDGET b) (ne_eqb b 0 n) (le-ltb MOST_BUDGET b h))

pub over_passes : (m : Meaning) (t : TableData) (b : ℕ) → (b ≡ 0 → ⊥) → b ≤ MOST_BUDGET → over t.status ≡ true → judged m t (solve b) ≡ passes
unfolding spent
over_passes m t b n h e = in_range m t b n h ∙ judge_next 14 (spent t b) [] (and_left (not (over t.status)) (ltb MOST_OPENED (t.opened + b)) (not_from_true (over t.status) e))

pub nodes_spent : (m : Meaning) (t : TableData) (b : ℕ) → (b ≡ 0 → ⊥) → b ≤ MOST_BUDGET → over t.status ≡ false → MOST_OPENED < t.opened + b → judged m t (solve b) ≡ refused_under 14
unfolding spent
nodes_spent m t b n h e k =
    in_range m t b n h
    ∙ judge_here 14 (spent t b) [] (and_from (not (over t.status)) (ltb MOST_OPENED (t.opened + b)) (not_from_false (over t.status) e) (lt-ltb MOST_OPENED (t.opened + b) k))

pub budget_fits : (m : Meaning) (t : TableData) (b : ℕ) → (b ≡ 0 → ⊥) → b ≤ MOST_BUDGET → t.opened + b ≤ MOST_OPENED → judged m t (solve b) ≡ passes
unfolding spent
budget_fits m t b n h k = in_range m t b n h ∙ judge_next 14 (spent t b) [] (and_right (not (over t.status)) (ltb MOST_OPENED (t.opened + b)) (le-ltb MOST_OPENED (t.opened + b) k))

-- ---- Read

pub nothing_found : (m : Meaning) (t : TableData) (buffer : List ℕ) → is_found t.status ≡ false → judged m t (read buffer) ≡ refused_under 15
nothing_found m t buffer e =
    judge_here 15 (not (is_found t.status)) ((16, ltb (length buffer) (length (result t.status))) ∷ []) (not_from_false (is_found t.status) e)

when_found : (m : Meaning) (t : TableData) (sets buffer : List ℕ) (b : Bool) → t.status ≡ Status.satisfied (values sets) → ltb (length buffer) (length sets) ≡ b → judged m t (read buffer) ≡ judge ((16, b) ∷ [])
when_found m t sets buffer b e f =
    ap (λ (p : Status). judge ((15, not (is_found p)) ∷ ((16, ltb (length buffer) (length (result p))) ∷ []))) e
    ∙ ap (λ (n : ℕ). judge ((16, ltb (length buffer) n) ∷ [])) (length-map sets least)
    ∙ ap (λ (x : Bool). judge ((16, x) ∷ [])) f

pub short_buffer : (m : Meaning) (t : TableData) (sets buffer : List ℕ) → t.status ≡ Status.satisfied (values sets) → length buffer < length sets → judged m t (read buffer) ≡ refused_under 16
short_buffer m t sets buffer e h = when_found m t sets buffer true e (lt-ltb (length buffer) (length sets) h)

pub buffer_fits : (m : Meaning) (t : TableData) (sets buffer : List ℕ) → t.status ≡ Status.satisfied (values sets) → length sets ≤ length buffer → judged m t (read buffer) ≡ passes
buffer_fits m t sets buffer e h = when_found m t sets buffer false e (le-ltb (length buffer) (length sets) h)
