-- A port that no way leads to or from.
use Rattle.std.proofs.Common.{◌≡◌, ℕ, zero, suc, List, [], ◌∷◌, length, map, get_or, refl, subst, sym, ap, ◌∙◌, arith, Bool, false, Option, Some, None}
use Rattle.std.specs.Vec.{with_items}
use Rattle.std.proofs.lemmas.List.{with_items_is}
use Rattle.std.proofs.lemmas.Option.{none-some}
use Rattle.l4_mail.specs.declared.outlets.Outlet.{Outlet}
use Rattle.l4_mail.specs.declared.inlets.Inlet.{Inlet}
use Rattle.l4_mail.specs.declared.ports.Port.{Port}
use Rattle.l4_mail.specs.Ends.{HasNoWay, RingId, ring_out, posted, waiting, ring_in, taken, kept}
use Rattle.l4_mail.specs.Inner.Fabrics.{AreJoined, AreMembers}
use Rattle.l4_mail.specs.Inner.Takes.{NoneIsHere}
use Rattle.l4_mail.proofs.Rows.{AreAsBefore}

-- The rings are those that they were.
pub ways_kept : (linked : Bool) (outs outs' ins ins' : List (Option RingId)) → outs' ≡ outs → ins' ≡ ins → (linked ≡ false → HasNoWay outs ins) → linked ≡ false → HasNoWay outs' ins'
ways_kept linked outs outs' ins ins' o i h e =
    subst (λ (xs : List (Option RingId)). HasNoWay xs ins') (sym o) (subst (λ (ys : List (Option RingId)). HasNoWay outs ys) (sym i) (h e))

pub none_waiting : (l : List (Option Outlet)) → ((to : ℕ) → get_or (map ring_out l) to None ≡ None) → (k : ℕ) → get_or (map waiting l) k [] ≡ []
none_waiting [] h k = refl
none_waiting (None ∷ l) h zero = refl
none_waiting (Some o ∷ l) h zero = absurd (none-some _ (sym (h zero)))
none_waiting (x ∷ l) h (suc k) = none_waiting l (λ j. h (suc j)) k

pub none_here : (l : List (Option Inlet)) → ((from : ℕ) → get_or (map ring_in l) from None ≡ None) → NoneIsHere l
none_here [] h k = refl
none_here (None ∷ l) h zero = refl
none_here (Some i ∷ l) h zero = absurd (none-some _ (sym (h zero)))
none_here (x ∷ l) h (suc k) = none_here l (λ j. h (suc j)) k

pub ways_before : (p : Port) (items : List (Option Outlet)) → AreAsBefore p.outlets.items items → p.linked ≡ false → HasNoWay (map ring_out (with_items p.outlets items).items) (map ring_in p.inlets.items)
ways_before p items h =
    let e : (with_items p.outlets items).items ≡ items = with_items_is p.outlets items (h.len ∙ sym p.outlets.ok.0) in
    ways_kept p.linked (map ring_out p.outlets.items) (map ring_out (with_items p.outlets items).items) (map ring_in p.inlets.items) (map ring_in p.inlets.items) (ap (map ring_out) e ∙ h.rings) refl p.ways

-- The next port, before it has got a way.
pub first_joined : (room n : ℕ) (ports : List Port) (q : Port) → AreMembers room n ports → q.cpu ≡ n → q.outlets.items ≡ [] → q.inlets.items ≡ [] → AreJoined room n 0 ports q
first_joined room n ports q are c o i = record {
  count = are.count;
  next = record {
    cpu = c;
    outlets = ap length o;
    inlets = ap length i;
    rooms = λ k ring e. absurd (none-some ring (sym (ap (λ (l : List (Option Outlet)). get_or (map ring_out l) k None) o) ∙ e));
    out = ap (λ (l : List (Option Outlet)). get_or (map ring_out l) n None) o;
    in_ = ap (λ (l : List (Option Inlet)). get_or (map ring_in l) n None) i;
    posted = λ to. ap (λ (l : List (Option Outlet)). get_or (map posted l) to []) o;
    taken = λ from. ap (λ (l : List (Option Inlet)). get_or (map taken l) from []) i;
    kept = λ from. ap (λ (l : List (Option Inlet)). get_or (map kept l) from []) i;
  };
  joined = λ j p e lt. absurd (omega arith);
  later = λ j p e le. are.each j p e;
  ways = are.ways;
}
