-- Which threads are of another processor, and which of one space.
use Rattle.std.proofs.Common.{◌≡◌, ℕ, ◌<◌, Some, length, ap, sym, subst, ◌∙◌}
use Rattle.std.specs.Prelude.{◌==◌, not, ◌&&◌, is_some, slice_get, slice_index_or}
use Rattle.std.proofs.lemmas.Option.{slice_get-get_or}
use Rattle.l4_model.specs.Words.{GlobalId, Id, NilThread, AnyThread, AnyLocalThread, LocalThread, GlobalThread}
use Rattle.l4_model.specs.Machine.{Machine, place_of, declaration_of, agree, same_space}
use Rattle.l4_core_model.specs.Local.{declared, undeclared}
use Rattle.l4_types.specs.Ids.{global_of}
use Rattle.l4_core_model.proofs.Standing.{place_within}
use Rattle.l4_script.proofs.Finding.{declared_at}
use Rattle.l4_model.specs.Conditions.{is_elsewhere}

declaration_is : (m : Machine) (id : GlobalId) (i : ℕ) → place_of m id ≡ Some i → declaration_of m id ≡ Some (declared m i)
declaration_is m id i e =
    let within = place_within m id i e in
    declared_at m id i e ∙ there within
  where
    there : i < length m.threads → slice_get m.threads i ≡ Some (slice_index_or m.threads i undeclared)
    there lt = rw (slice_get-get_or m.threads i undeclared)

elsewhere_is : (m : Machine) (to : GlobalId) (other i : ℕ) → place_of m to ≡ Some other → place_of m (declared m i).id ≡ Some i →
    not ((declared m other).cpu == (declared m i).cpu) ≡ is_elsewhere m (declared m i).id (GlobalThread to)
elsewhere_is m to other i at here =
    ap not (ap (λ o. agree (λ d. d.cpu) o (Some (declared m i))) (sym (declaration_is m to other at)) ∙ ap (λ o. agree (λ d. d.cpu) (declaration_of m to) o) (sym (declaration_is m (declared m i).id i here)))
    ∙ ap (λ o. is_some o && not (agree (λ d. d.cpu) (declaration_of m to) (declaration_of m (declared m i).id))) (sym at)

-- The same of an id that names a thread.
pub elsewhere_at : (m : Machine) (id : Id) (to : GlobalId) (other i : ℕ) → Some to ≡ global_of id → place_of m to ≡ Some other → place_of m (declared m i).id ≡ Some i →
    not ((declared m other).cpu == (declared m i).cpu) ≡ is_elsewhere m (declared m i).id id
elsewhere_at m NilThread to other i e at here = cc
elsewhere_at m AnyThread to other i e at here = cc
elsewhere_at m AnyLocalThread to other i e at here = cc
elsewhere_at m (LocalThread word) to other i e at here = cc
elsewhere_at m (GlobalThread t) to other i e at here = let same : to ≡ t = cc in subst (λ t. not ((declared m other).cpu == (declared m i).cpu) ≡ is_elsewhere m (declared m i).id (GlobalThread t)) same (elsewhere_is m to other i at here)

-- Threads are of one space that are declared with one.
pub same_space_at : (m : Machine) (i j : ℕ) → place_of m (declared m i).id ≡ Some i → place_of m (declared m j).id ≡ Some j →
    ((declared m i).space == (declared m j).space) ≡ same_space m (declared m i).id (declared m j).id
same_space_at m i j at here =
    ap (λ o. agree (λ d. d.space) o (Some (declared m j))) (sym (declaration_is m (declared m i).id i at))
    ∙ ap (λ o. agree (λ d. d.space) (declaration_of m (declared m i).id) o) (sym (declaration_is m (declared m j).id j here))
