-- Every history has the laws.
use Rattle.std.proofs.Common.{◌≡◌, ◌≤◌, Some, List, ◌++◌, ap, sym, ◌∙◌, arith}
use Rattle.l4_model.specs.Machine.{Machine}
use Rattle.l4_model.specs.World.{World, opening, Name}
use Rattle.l4_model.specs.Steps.{Step}
use Rattle.l4_model.specs.History.{reached}
use Rattle.l4_model.specs.Laws.{IsLawful, AreBegunThenEnded, AreAccounted, NoneAfterDelete, begins_of, ends_of}
use Rattle.l4_model.proofs.Once.{at_most_once}
use Rattle.l4_model.proofs.Unaltered.{unaltered}
use Rattle.l4_model.proofs.InOrder.{in_order}
use Rattle.l4_model.proofs.Turns.{takes_turns}
use Rattle.l4_model.proofs.Deleted.{parted, none_after_delete}
use Rattle.l4_model.proofs.Accounted.{accounted, begins_once, begun_declared}

pub all_accounted : (m : Machine) (h : List Step) → AreAccounted m h
all_accounted m h w r s = accounted m h s w r

ended_after_begun : (m : Machine) (before after : List Step) (v : World) (s : Name) → reached m (before ++ after) ≡ Some v → ends_of s before ≤ begins_of s before
ended_after_begun m before after v s r =
    let parts = parted m before after (opening m) v r in
    let account = accounted m before s parts.between parts.first in
    omega arith

pub begun_then_ended : (m : Machine) (h : List Step) (v : World) → reached m h ≡ Some v → AreBegunThenEnded m h
begun_then_ended m h v r s =
    record {
      begun_once = begins_once m h s v r;
      by_declared = begun_declared m h s v r;
      begun_first = λ before after split. ended_after_begun m before after v s (ap (reached m) (sym split) ∙ r);
    }

pub nothing_after_delete : (m : Machine) (h : List Step) (v : World) → reached m h ≡ Some v → NoneAfterDelete m h
nothing_after_delete m h v r before after caller target w split first asks =
    none_after_delete m before after caller target (opening m) v (ap (reached m) (sym split) ∙ r) w first asks

pub lawful : (m : Machine) (h : List Step) (v : World) → reached m h ≡ Some v → IsLawful m h
lawful m h v r =
    record {
      delivered_at_most_once = at_most_once m h v r;
      delivered_unaltered = unaltered m h v r;
      in_sending_order = in_order m h v r;
      first_acceptable_taken = takes_turns m h v r;
      nothing_after_deletion = nothing_after_delete m h v r;
      begun_then_ended = begun_then_ended m h v r;
      every_send_accounted = all_accounted m h;
    }
