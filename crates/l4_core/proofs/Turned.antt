-- What a thread keeps that turns to a new partner.
use Rattle.std.proofs.Common.{◌≡◌, ℕ, ◌<◌, Option, Some, None, is_some, length, refl, ap, sym, ◌∙◌, subst}
use Rattle.std.specs.Option.{option_map}
use Rattle.l4_model.specs.Words.{GlobalId}
use Rattle.l4_model.specs.Machine.{Machine}
use Rattle.l4_model.specs.World.{Send, Owed, Phase, Ready, Sending, Receiving, Ordering, Ended, Deleted, Thread, is_deleted}
use Rattle.l4_model.specs.Effects.{turned_send, turns, turns_in}
use Rattle.l4_core_model.specs.Acts.{split_receiver}
use Rattle.l4_core_model.specs.Local.{Local, declared, thread}
use Rattle.l4_core.specs.Inner.Covered.{is_zero_send}
use Rattle.l4_core.specs.Inner.Settled.{IsSent, MaySend, IsSettled}
use Rattle.l4_core.proofs.Settling.{Fits}

pub turned_deleted : (owed : Owed) (t : Thread) → is_deleted (turns owed t).phase ≡ is_deleted t.phase
turned_deleted owed t = by t.phase refl
  where
    by : (p : Phase) → t.phase ≡ p → is_deleted (turns_in p owed t).phase ≡ is_deleted t.phase
    by Ready e = refl
    by Sending e = refl
    by (Receiving receive since) e = sym (ap is_deleted e)
    by Ordering e = refl
    by Ended e = refl
    by Deleted e = refl

-- Its send, but for its receive phase

sent_turned : (owed : Owed) (id : GlobalId) (o : Option Send) (begun : ℕ) → IsSent id o begun → IsSent id (option_map (turned_send owed) o) begun
sent_turned owed id None begun h = tt
sent_turned owed id (Some send) begun h = h

some_turned : (owed : Owed) (o : Option Send) → is_some (option_map (turned_send owed) o) ≡ is_some o
some_turned owed None = refl
some_turned owed (Some send) = refl

split_turned : (owed : Owed) (m : Machine) (cpu : ℕ) (o : Option Send) → split_receiver m cpu (option_map (turned_send owed) o) ≡ split_receiver m cpu o
split_turned owed m cpu None = refl
split_turned owed m cpu (Some send) = refl

pub turned_zero : (owed : Owed) (t : Thread) → is_zero_send (turns owed t).send ≡ is_zero_send t.send
turned_zero owed t = by t.phase
  where
    sends : (o : Option Send) → is_zero_send (option_map (turned_send owed) o) ≡ is_zero_send o
    sends None = refl
    sends (Some send) = refl

    by : (p : Phase) → is_zero_send (turns_in p owed t).send ≡ is_zero_send t.send
    by Ready = refl
    by Sending = sends t.send
    by (Receiving receive since) = refl
    by Ordering = refl
    by Ended = refl
    by Deleted = refl

-- It fits its place as before.

turned_fits : (m : Machine) (cpu : ℕ) (l : Local) (i : ℕ) (owed : Owed) (t : Thread) → Fits m cpu l i t → Fits m cpu l i (turns owed t)
turned_fits m cpu l i owed t f = by t.phase refl
  where
    by : (p : Phase) → t.phase ≡ p → Fits m cpu l i (turns_in p owed t)
    by Ready e = f
    by Sending e = record {
      within = f.within;
      sent = sent_turned owed (declared m i).id t.send t.context.begun f.sent;
      begun = f.begun;
      ordering = f.ordering;
      sends = λ q. some_turned owed t.send ∙ f.sends q;
      here = λ q own. split_turned owed m cpu t.send ∙ f.here q own;
      sending = λ own q. subst MaySend (sym e) tt;
      ready = f.ready;
    }
    by (Receiving receive since) e = record {
      within = f.within;
      sent = f.sent;
      begun = f.begun;
      ordering = λ own q. cc;
      sends = f.sends;
      here = f.here;
      sending = λ own q. subst MaySend e (f.sending own q);
      ready = λ q. let wrong : Receiving receive since ≡ Ready = sym e ∙ f.ready q in cc;
    }
    by Ordering e = f
    by Ended e = f
    by Deleted e = f

pub fits-turned : (m : Machine) (cpu : ℕ) (l : Local) (i : ℕ) (owed : Owed) → IsSettled m cpu l → i < length m.threads → Fits m cpu l i (turns owed (thread l i))
fits-turned m cpu l i owed s within =
    turned_fits m cpu l i owed (thread l i)
    (record {
      within = within;
      sent = s.sent i;
      begun = s.begun i;
      ordering = s.ordering i;
      sends = λ q. (s.queued i q).sends;
      here = λ q own. (s.queued i q).here own;
      sending = s.sending i;
      ready = λ q. (s.ready i q).phase;
    })
