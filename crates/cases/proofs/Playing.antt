-- Histories over one store, as a function of the calls.
use Rattle.std.proofs.Common.{◌≡◌, ℕ, zero, suc, Bool, true, ltb, List, [], ◌∷◌, sym, refl, ap, ◌∙◌, subst, subst₂, arith}
use Rattle.std.proofs.lemmas.Bool.{and_parts, ltb-true}
use Rattle.std.specs.List.{list_all}
use Rattle.rows.specs.Rows.{Meaning}
use Rattle.rows.specs.Bytes.{Bytes}
use Rattle.stores.specs.Behaviours.{Behaviour, Decided}
use Rattle.search.specs.Calls.{TableData, Call, Answer, Formed, judged, Does, lost_after}
use Rattle.search.specs.Calls.Call.{declare, post, solve, read, wipe}
use Rattle.search.specs.Histories.{History, LeadsTo, calls_in}
use Rattle.search.specs.CallOutcomes.{CallOutcome}
use Rattle.search.proofs.OutcomeFacts.{comes, does_is, one_outcome, Played, play, replay}
use Rattle.cases.specs.SearchCases.{SearchCase, SearchHolds}

-- ---- what a caller can hand over, by computation

abbrev pub formed : Call → Bool
formed (declare s) = ltb s 18446744073709551616
formed (post bs) = list_all (λ b. ltb b 256) bs
formed (solve b) = true
formed (read bs) = list_all (λ b. ltb b 256) bs
formed wipe = true

small : (bs : List ℕ) → list_all (λ b. ltb b 256) bs ≡ true → Bytes bs
small [] h i l = absurd (omega arith)
small (b ∷ bs) h zero l = ltb-true b 256 (and_parts (ltb b 256) (list_all (λ b. ltb b 256) bs) h).0
small (b ∷ bs) h (suc i) l = small bs (and_parts (ltb b 256) (list_all (λ b. ltb b 256) bs) h).1 i (omega arith)

formed_so : (c : Call) → formed c ≡ true → Formed c
formed_so (declare s) h = ltb-true s 18446744073709551616 h
formed_so (post bs) h = small bs h
formed_so (solve b) h = tt
formed_so (read bs) h = small bs h
formed_so wipe h = tt

-- ---- what is played is a history

module _ (store : Behaviour) (d : Decided store) (m : Meaning) (g : store.State) where
  -- there is a history that comes to this
  abbrev Real : Played store.State → Type 0
  Real p = LeadsTo store m g p.calls p.table p.state p.lost

  does_so : (i : ℕ) (t : TableData) (v : store.State) (c : Call) (r : Answer × TableData × store.State × ℕ) → comes store d m i t v c (judged m t c) ≡ r
      → (D : Does store m t v c r.0 r.1 r.2) × (lost_after D i ≡ r.3)
  does_so i t v c r e =
      let o : CallOutcome store m t v c = (one_outcome store d m t v c).0 in
      subst (λ (x : Answer × TableData × store.State × ℕ). (D : Does store m t v c x.0 x.1 x.2) × (lost_after D i ≡ x.3)) (sym (does_is store d m o.does i) ∙ e) (o.does, refl)

  play_real : (c : Call) (p : Played store.State) → Formed c → Real p → Real (play store d m g c p)
  play_real c p f (H, e) =
      let r = comes store d m p.lost p.table p.state c (judged m p.table c) in
      let D = does_so p.lost p.table p.state c r refl in
      (History.then p.calls p.table r.1 p.state r.2 c r.0 H f D.0, ap (lost_after D.0) e ∙ D.1)

  replay_real : (cs : List Call) → list_all formed cs ≡ true → Real (replay store d m g cs)
  replay_real [] f = (History.made (d.emptied g) (d.empties g), refl)
  replay_real (c ∷ cs) f =
      let fs = and_parts (formed c) (list_all formed cs) f in play_real c (replay store d m g cs) (formed_so c fs.0) (replay_real cs fs.1)

  -- the calls of a history, played, are these calls
  pub replay_calls : (cs : List Call) → calls_in (replay store d m g cs).calls ≡ cs
  replay_calls [] = refl
  replay_calls (c ∷ cs) = ap (λ (x : List Call). c ∷ x) (replay_calls cs)

-- a history whose calls, played, have these answers and come to this table, so many keys lost and these keys held
pub led : (store : Behaviour) (d : Decided store) (g : store.State) (c : SearchCase) → list_all formed (calls_in c.calls) ≡ true
    → (replay store d c.bank g (calls_in c.calls)).calls ≡ c.calls → (replay store d c.bank g (calls_in c.calls)).table ≡ c.table
    → (replay store d c.bank g (calls_in c.calls)).lost ≡ c.lost → (store.view (replay store d c.bank g (calls_in c.calls)).state).held ≡ c.keys
    → SearchHolds store g c
led store d g c f a b l k =
    let p = replay store d c.bank g (calls_in c.calls) in
    record {
      state = p.state;
      history = subst (LeadsTo store c.bank g c.calls c.table p.state) l
          (subst₂ (λ (x : List (Call × Answer)) (y : TableData). LeadsTo store c.bank g x y p.state p.lost) a b (replay_real store d c.bank g (calls_in c.calls) f));
      holds = k;
    }
