-- What an event did becomes an event of the log.
use Rattle.std.proofs.Common.{◌≡◌, ℕ, ◌≤◌, true, List, [], ◌∷◌, ◌++◌, length, map, take, drop, refl, ap, sym, ◌∙◌, subst, arith}
use Rattle.std.proofs.lemmas.List.{append-nil, map-append, take_all, length-append}
use Rattle.std.proofs.Math.Seq.{drop-append_seam}
use Rattle.l4_model.specs.Steps.{Step}
use Rattle.l4_core_model.specs.Runs.{Event}
use Rattle.l4_proc.specs.declared.end_rows.End.{End}
use Rattle.l4_proc.specs.declared.log.Log.{Log}
use Rattle.l4_proc.specs.Choices.{action_in}
use Rattle.l4_proc.specs.Ends.{are_ends, events_between}
use Rattle.l4_proc.specs.Logs.{all_steps, events, actions, HasBegun, HasEnded, IsClosed, IsSameLog}
use Rattle.l4_proc.proofs.Ends.{are_pushed, events_pushed, events_kept}

pub begun_steps : (old new : Log) → HasBegun old new → all_steps new.buffer ≡ all_steps old.buffer
begun_steps old new h = rw (h.buffer.opened.steps, h.buffer.before) (append-nil (all_steps old.buffer))

pub begun_events : (old new : Log) → HasBegun old new → events new ≡ events old
begun_events old new h = rw (begun_steps old new h, h.ends, h.cpu) refl

pub begun_actions : (old new : Log) → HasBegun old new → actions new ≡ actions old
begun_actions old new h = rw (h.ends, h.cpu) refl

pub begun_closed : (old new : Log) → HasBegun old new → IsClosed old → IsClosed new
begun_closed old new h closed = rw (begun_steps old new h, h.ends) closed

pub same_events : (old new : Log) → IsSameLog old new → events new ≡ events old
same_events old new h = rw (h.buffer, h.ends, h.cpu) refl

pub same_actions : (old new : Log) → IsSameLog old new → actions new ≡ actions old
same_actions old new h = rw (h.ends, h.cpu) refl

pub same_closed : (old new : Log) → IsSameLog old new → IsClosed old → IsClosed new
same_closed old new h closed = rw (h.buffer, h.ends) closed

-- An event of so many steps has begun behind a closed log, and ended: it is the last event, and the log is closed again.
pub record IsLogged (old new : Log) (stamp choice : ℕ) (steps : List Step) : Type 0 where
  pub events : events new ≡ events old ++ record { cpu = old.cpu; stamp = stamp; steps = steps } ∷ []
  pub actions : actions new ≡ actions old ++ action_in old.cpu choice ∷ []
  pub closed : IsClosed new

pub logged : (old begun middle new : Log) (stamp choice count : ℕ) → IsClosed old → HasBegun old begun → middle.cpu ≡ begun.cpu →
    middle.ends.items ≡ begun.ends.items → middle.buffer.before ≡ begun.buffer.before →
    HasEnded middle new stamp choice count → IsLogged old new stamp choice middle.buffer.steps
logged old begun middle new stamp choice count closed b cpu ends before e =
    let all = all_steps old.buffer in
    let steps = middle.buffer.steps in
    let whole : all_steps middle.buffer ≡ all ++ steps = ap (λ (ls : List Step). ls ++ steps) (before ∙ b.buffer.before) in
    let now : all_steps new.buffer ≡ all ++ steps = ap all_steps e.buffer ∙ whole in
    let end : End = record { stamp = stamp; place = length (all ++ steps); choice = choice } in
    let items : new.ends.items ≡ old.ends.items ++ end ∷ [] =
    e.ends ∙ ap (λ (ls : List Step). middle.ends.items ++ record { stamp = stamp; place = length ls; choice = choice } ∷ []) whole
    ∙ ap (λ (es : List End). es ++ end ∷ []) (ends ∙ b.ends) in
    let event : List Step → List Event = λ ls. record { cpu = old.cpu; stamp = stamp; steps = ls } ∷ [] in
    let fits : length all ≤ length (all ++ steps) = omega (arith, length-append all steps) in
    let told_steps : drop (length all) (take (length (all ++ steps)) (all ++ steps)) ≡ steps =
    ap (drop (length all)) (take_all (length (all ++ steps)) (all ++ steps) (omega arith)) ∙ drop-append_seam all steps in
    record {
      events = ap (λ (c : ℕ). events_between c 0 new.ends.items (all_steps new.buffer)) (e.cpu ∙ cpu ∙ b.cpu)
          ∙ ap (λ (es : List End). events_between old.cpu 0 es (all_steps new.buffer)) items
          ∙ ap (events_between old.cpu 0 (old.ends.items ++ end ∷ [])) now
          ∙ events_pushed old.cpu 0 (length all) old.ends.items (all ++ steps) end closed
          ∙ ap (λ (es : List Event). es ++ event (drop (length all) (take (length (all ++ steps)) (all ++ steps)))) (events_kept old.cpu 0 (length
          all) old.ends.items all steps closed (omega arith))
          ∙ ap (λ (ls : List Step). events old ++ event ls) told_steps;
      actions = ap (λ (c : ℕ). map (λ (e : End). action_in c e.choice) new.ends.items) (e.cpu ∙ cpu ∙ b.cpu)
          ∙ ap (map (λ (e : End). action_in old.cpu e.choice)) items
          ∙ map-append (λ (e : End). action_in old.cpu e.choice) old.ends.items (end ∷ []);
      closed = subst (λ (es : List End). are_ends 0 es (length (all_steps new.buffer)) ≡ true) (sym items)
          (subst (λ (ls : List Step). are_ends 0 (old.ends.items ++ end ∷ []) (length ls) ≡ true) (sym now) (are_pushed old.ends.items 0 (length all)
          end closed fits));
    }
