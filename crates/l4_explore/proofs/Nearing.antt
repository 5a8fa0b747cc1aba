-- Where choices are left out, but none that an end needs, all ends were found, up to where a search
-- has come.
use Rattle.std.proofs.Common.{◌≡◌, ℕ, zero, suc, ◌+◌, ◌<◌, ◌≤◌, Bool, true, ◌⊎◌, inl, inr, List, [], ◌∷◌, ◌++◌, length, Option, Some, sym, ap, subst, arith}
use Rattle.std.proofs.Math.ListN.{length-append}
use Rattle.std.proofs.lemmas.Bool.{cases_lt}
use Rattle.l4_explore.specs.Tries.{State, Next}
use Rattle.l4_explore.specs.Search.{Seen, seen_at, AreMet, IsExplored, Offers}
use Rattle.l4_explore.specs.Inner.Ends.{EndsIn, IsNearer, AreKept, IsFoundIn, AreAllEnds}
use Rattle.l4_explore.proofs.Orders.{not_after_length}

-- The state that a nearer choice leads to, and where it was found
record IsNearerAt (ends_in : EndsIn) (found : List Seen) (entries more : ℕ) (end : State) : Type 0 where
  place : ℕ
  inside : place < length found
  ends : ends_in (seen_at found place).state more end
  short : length (seen_at found place).schedule ≤ entries + 1

nearer_at : (ends_in : EndsIn) (found : List Seen) (s : List ℕ) (cs : List Next) (more : ℕ)
    (end : State) → AreMet found s cs → IsNearer ends_in cs more end →
    IsNearerAt ends_in found (length s) more end
nearer_at ends_in found s [] more end m none = absurd none
nearer_at ends_in found s (n ∷ ns) more end m (inl ends) = record {
  place = m.0.place;
  inside = m.0.inside;
  ends = subst (λ (b : State). ends_in b more end) (sym m.0.is) ends;
  short =
      let l = not_after_length (seen_at found m.0.place).schedule (s ++ n.entry ∷ []) m.0.early in
      omega (arith, l, length-append s (n.entry ∷ []));
}
nearer_at ends_in found s (n ∷ ns) more end m (inr rest) =
    nearer_at ends_in found s ns more end m.1 rest

module _ (f : List ℕ → Option State) (offers : Offers) (ends_in : EndsIn) (found : List Seen)
    (depth : ℕ) (is_whole : Bool) (ex : IsExplored f offers found depth is_whole)
    (kept : AreKept ends_in offers) where
  -- From a found state that is near enough, so many more entries
  from_found : (more : ℕ) (end : State) (i : ℕ) → i < length found →
      (length (seen_at found i).schedule + more ≤ depth) ⊎ (is_whole ≡ true) →
      ends_in (seen_at found i).state more end →
      IsFoundIn found end (length (seen_at found i).schedule + more)
  from_found zero end i l near ends = record {
    place = i;
    inside = l;
    is = kept.here (seen_at found i).state end ends;
    short = omega arith;
  }
  from_found (suc n) end i l near ends =
      let g = ex.gone_on i l (elim near [
        | inl short ↦ inl (omega (arith, short))
        | inr whole ↦ inr whole
      ]) in
      let ends : ends_in (seen_at found i).state (n + 1) end =
      subst (λ k. ends_in (seen_at found i).state k end)
      (let e : suc n ≡ n + 1 = omega arith in e) ends in
      next (nearer_at ends_in found (seen_at found i).schedule g.choices n end g.all_met
      (kept.nearer _ (seen_at found i) g.choices g.offered n end ends)) (from_found n end)
    where
      next : IsNearerAt ends_in found (length (seen_at found i).schedule) n end →
          ((j : ℕ) → j < length found →
          (length (seen_at found j).schedule + n ≤ depth) ⊎ (is_whole ≡ true) →
          ends_in (seen_at found j).state n end →
          IsFoundIn found end (length (seen_at found j).schedule + n)) →
          IsFoundIn found end (length (seen_at found i).schedule + suc n)
      next a rest =
          let r = rest a.place a.inside (elim near [
            | inl short ↦ inl (omega (arith, short, a.short))
            | inr whole ↦ inr whole
          ]) a.ends in
          record {
            place = r.place;
            inside = r.inside;
            is = r.is;
            short = omega (arith, r.short, a.short);
          }

  module _ (opening : State) (begins : f [] ≡ Some opening) where
    from_opening : (entries : ℕ) (end : State) → (entries ≤ depth) ⊎ (is_whole ≡ true) →
        ends_in opening entries end → IsFoundIn found end entries
    from_opening entries end near ends =
        let o = ex.all.opening opening begins in
        let short = not_after_length (seen_at found o.place).schedule [] o.early in
        let r = from_found entries end o.place o.inside (elim near [
          | inl l ↦ inl (omega (arith, l, short))
          | inr whole ↦ inr whole
        ]) (subst (λ (b : State). ends_in b entries end) (sym o.is) ends) in
        record {
          place = r.place;
          inside = r.inside;
          is = r.is;
          short = omega (arith, r.short, short);
        }

    pub all_ends : AreAllEnds ends_in opening found depth is_whole
    all_ends = record {
      complete = λ entries end ends l. from_opening entries end (inl l) ends;
      whole = λ whole entries end ends. from_opening entries end (inr whole) ends;
      shortest = λ i entries l ends. by i entries l ends (cases_lt depth entries);
    }
      where
        by : (i entries : ℕ) → i < length found →
            ends_in opening entries (seen_at found i).state →
            (depth < entries) ⊎ (entries ≤ depth) → length (seen_at found i).schedule ≤ entries
        by i entries l ends (inl less) = let n = ex.near i l in omega (arith, n, less)
        by i entries l ends (inr le) =
            let r = from_opening entries (seen_at found i).state (inl le) ends in
            let same = ex.all.once r.place i r.inside l (ap (λ (a : State). a.code) r.is) in
            subst (λ j. length (seen_at found j).schedule ≤ entries) same r.short
