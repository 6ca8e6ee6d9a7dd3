-- What the kinds share: cuts of sets, and an accepted row's parts.
use Rattle.std.specs.Prelude.{ℕ, Bool, true, cond, not, ◌&&◌, List, [], ◌∷◌, length, Ok, Err, ◌==◌, nat_eq, nat_le, nat_lt, slice_index, slice_set}
use Rattle.sets.specs.Sets.{sift}
use Rattle.std.specs.List.{list_all, list_any}
use Rattle.rows.specs.declared.refusal.KindRefusal.TheVariants.{Undeclared, RuleBroken}
use Rattle.rows.specs.declared.member.Member.{Member}
use Rattle.rows.specs.Rows.{RowData, Verdict, count}
use Rattle.rows.specs.declared.limits.TheConstants.{MOST_MEMBERS}

-- ---- cuts

-- voice i keeps only those values of its set that pass the test f
unfoldable pub cut : ℕ → (ℕ → Bool) → List ℕ → List ℕ
unfolding sift
cut i f s = slice_set s i (sift f (slice_index s i))

-- each member's voice in turn keeps only the values that pass for that member
abbrev pub cuts : (Member → ℕ → Bool) → List Member → List ℕ → List ℕ
cuts f [] s = s
cuts f (m ∷ ms) s = cuts f ms (cut m.voice (f m) s)

-- a member's value in a placing, or its set in a list of sets; 0 where its voice is not among them
abbrev pub at : List ℕ → Member → ℕ
at s m = slice_index s m.voice

-- no two elements are the same
abbrev pub distinct : List ℕ → Bool
distinct [] = true
distinct (x ∷ xs) = not (list_any (nat_eq x) xs) && distinct xs

-- ---- acceptance

-- this letter, so many body bytes, a count from 1 to 32 and that many members
abbrev pub shaped : ℕ → ℕ → RowData → Bool
shaped letter long r =
    (r.letter == letter)
    && (length r.body == long
    && (nat_le 1 (count r) && (nat_le (count r) MOST_MEMBERS && length r.members == count r)))

-- a row of another shape is refused; a voice that is not declared goes before a rule that is broken
abbrev pub verdict : Bool → Bool → Bool → Verdict
verdict shape declared rule =
    cond shape (cond declared (cond rule (Ok tt) (Err RuleBroken)) (Err Undeclared))
    (Err RuleBroken)

-- all members' voices are among the first n
abbrev pub declared : ℕ → RowData → Bool
declared n r = list_all (λ m. nat_lt m.voice n) r.members
