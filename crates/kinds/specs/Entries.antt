-- The kind E, hex 45: the result is the entry that the index names.
use Rattle.std.specs.Prelude.{ℕ, zero, suc, Bool, true, false, cond, ◌&&◌, ◌||◌, List, [], ◌∷◌, map, length, pos, ◌==◌, nat_lt, slice_index, unsigned_abs}
use Rattle.std.specs.Int.Signed.{non_neg}
use Rattle.sets.specs.Sets.{has, fixed, least}
use Rattle.std.specs.List.{list_all}
use Rattle.rows.specs.declared.member.Member.{Member}
use Rattle.rows.specs.declared.trace.Trace.{Trace}
use Rattle.rows.specs.Rows.{RowData, KindMeaning, byte}
use Rattle.rows.specs.Shared.{cut, shaped, verdict}
use Rattle.rows.specs.declared.trace.Trace.TheVariants.{Settled, Open}

-- the index voice and the result voice, after the count
abbrev pub index : RowData → ℕ
index r = byte r 1

abbrev pub result_voice : RowData → ℕ
result_voice r = byte r 2

-- entry i, and 64 where there is none
abbrev pub entry : List Member → ℕ → ℕ
entry [] i = 64
entry (m ∷ ms) zero = unsigned_abs m.argument
entry (m ∷ ms) (suc i) = entry ms i

-- v is entry i for some i that passes
abbrev pub reached : List Member → (ℕ → Bool) → ℕ → Bool
reached [] f v = false
reached (m ∷ ms) f v = (f zero && unsigned_abs m.argument == v) || reached ms (λ i. f (suc i)) v

-- i leaves the index's set unless there is an entry i and it is in the result's set
abbrev pub narrow_index : RowData → List ℕ → List ℕ
narrow_index r s =
    cut (index r)
    (λ i. nat_lt i (length r.members) && has (slice_index s (result_voice r)) (entry r.members i)) s

-- v leaves the result's set unless it is entry i for some i in the index's set
abbrev pub narrow_result : RowData → List ℕ → List ℕ
narrow_result r s =
    cut (result_voice r) (λ v. reached r.members (has (slice_index s (index r))) v) s

-- there is an entry i and it is v
abbrev pub meets : RowData → ℕ → ℕ → Bool
meets r i v = nat_lt i (length r.members) && v == entry r.members i

-- the trace, by whether the index's set i and the result's set v are fixed
abbrev pub element_trace : RowData → ℕ → ℕ → Bool → Bool → Trace
element_trace r i v true true = cond (meets r (least i) (least v)) Settled (Open 0)
element_trace r i v true false = Open (entry r.members (least i))
element_trace r i v false true = Open (least v)
element_trace r i v false false = Open 0

-- an entry from 0 to 63, with a voice of 0, which names none
abbrev pub is_entry : Member → Bool
is_entry m = m.voice == 0 && (non_neg m.argument && nat_lt (unsigned_abs m.argument) 64)

abbrev pub element_rule : RowData → Bool
element_rule r = list_all is_entry r.members

-- the row of this kind with these voices and entries
abbrev pub element_row : ℕ → ℕ → List ℕ → RowData
element_row index result entries = record {
  letter = 0x45;
  body = length entries ∷ index ∷ result ∷ [];
  members = map (λ e. record { voice = 0; argument = pos e }) entries;
}

abbrev pub element : KindMeaning
element = record {
  letter = 0x45;
  body_length = 3;
  accepts =
      λ r n. verdict (shaped 0x45 3 r) (nat_lt (index r) n && nat_lt (result_voice r) n)
      (element_rule r);
  holds = λ r p. meets r (slice_index p (index r)) (slice_index p (result_voice r));
  turn = λ r s. narrow_result r (narrow_index r s);
  trace =
      λ r s. element_trace r (slice_index s (index r)) (slice_index s (result_voice r))
      (fixed (slice_index s (index r))) (fixed (slice_index s (result_voice r)));
}
