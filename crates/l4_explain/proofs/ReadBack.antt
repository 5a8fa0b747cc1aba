-- The words of a cause and its value are read as this cause, so no two causes have one line.
use Rattle.std.proofs.Common.{◌≡◌, ℕ, ◌^◌, true, List, [], ◌∷◌, ◌++◌, Option, Some, None, refl, sym, ap, ◌∙◌}
use Rattle.std.specs.Prelude.{◌==◌, if◌then◌else◌, codes}
use Rattle.std.specs.Option.{option_map}
use Rattle.std.proofs.lemmas.Bool.{ltb-true}
use Rattle.std.proofs.lemmas.List.{append_cancel_left, append_cancel_right}
use Rattle.l4_model.proofs.Chains.{some_is}
use Rattle.l4_audit.specs.declared.reasons.Reason.{Reason}
use Rattle.l4_audit.specs.declared.reasons.Reason.TheVariants.{Undeclared, NotReady, NotLocal, NotNext, NoSendPhase, NoReceivePhase, NoOrder, OtherOrder, NotUndecided, NoReceiver, ReceiverDeleted, Waiting, NotWaiting, MustWait, NotReceiving, AcceptsNone, NotFirst, OtherReceiver, OtherShown, OtherSender, OtherTag, OtherWords, NotTimedOut, HasDestination, SendNotCancelled, SenderNotDeleted, ReceiveNotPassed, HasPartner, AcceptsFirst, ReceiveNotCancelled, AskedNothing, TargetUndeclared, NoProcessor, ClockAt, PastClocks, NotOwed, OriginatorUndeclared}
use Rattle.l4_words.specs.Numbers.{number_of}
use Rattle.l4_words.specs.Threads.{thread_of}
use Rattle.l4_words.proofs.Numerals.{decimal_is_read, hexadecimal_is_read}
use Rattle.l4_words.proofs.Spelled.{thread_is_read}
use Rattle.l4_explain.specs.Reasons.{sentence, value_text, cause_text, has_word}
use Rattle.l4_explain.specs.declared.reasons.Cause.{Cause}
use Rattle.l4_explain.specs.declared.reasons.Cause.TheVariants as causes
use Rattle.l4_explain.proofs.ReadValues.{state_read, state_is_read, id_read, id_is_read, order_read, order_is_read}

-- What stands behind these words.
behind : (words text : List ℕ) → Option (List ℕ)
behind [] text = Some text
behind (b ∷ bs) [] = None
behind (b ∷ bs) (c ∷ cs) = if b == c then behind bs cs else None

-- What is read behind them, or else what is read of another row.
tried : Option (List ℕ) → (List ℕ → Option Cause) → (other : Option Cause) → Option Cause
tried None read other = other
tried (Some value) read other = read value

alone : (words : List ℕ) → Cause → (text : List ℕ) → (other : Option Cause) → Option Cause
alone words r text other = tried (behind words text) (λ value. Some r) other

with : {A : Type 0} → (words : List ℕ) → (List ℕ → Option A) → (A → Cause) → (text : List ℕ) → (other : Option Cause) → Option Cause
with words read make text other = tried (behind (words ++ codes " ") text) (λ value. option_map make (read value)) other

read : List ℕ → Option Cause
read text =
    alone (codes "the thread is not declared") (causes.Rule Undeclared) text
    (with (codes "the thread is not ready but") state_read (λ x. causes.Rule (NotReady x)) text
    (alone (codes "the instruction is an ipc with a phase or an order") (causes.Rule NotLocal) text
    (with (codes "the send is not the next after number") (number_of 10) (λ x. causes.Rule (NotNext x)) text
    (alone (codes "the instruction has no send phase") (causes.Rule NoSendPhase) text
    (alone (codes "the instruction does not begin with a receive phase") (causes.Rule NoReceivePhase) text
    (alone (codes "the instruction gives no admitted order") (causes.Rule NoOrder) text
    (with (codes "the instruction gives the order") order_read (λ x. causes.Rule (OtherOrder x)) text
    (alone (codes "no send of this name is undecided") (causes.Rule NotUndecided) text
    (with (codes "the destination is no declared thread but") id_read (λ x. causes.Rule (NoReceiver x)) text
    (with (codes "the destination is the deleted thread") thread_of (λ x. causes.Rule (ReceiverDeleted x)) text
    (alone (codes "the send waits in a list already") (causes.Rule Waiting) text
    (alone (codes "the send waits in no list") (causes.Rule NotWaiting) text
    (with (codes "the send must wait for a retarget of") id_read (λ x. causes.Rule (MustWait x)) text
    (with (codes "the receiver is not receiving but") state_read (λ x. causes.Rule (NotReceiving x)) text
    (alone (codes "the receiver accepts no send in its list") (causes.Rule AcceptsNone) text
    (with (codes "the receiver accepts first the send of") thread_of (λ x. causes.Rule (NotFirst x)) text
    (with (codes "the send goes to") thread_of (λ x. causes.Rule (OtherReceiver x)) text
    (with (codes "the shown sender is") thread_of (λ x. causes.Rule (OtherShown x)) text
    (with (codes "the actual sender is") thread_of (λ x. causes.Rule (OtherSender x)) text
    (with (codes "the received tag is") (number_of 16) (λ x. causes.Rule (OtherTag x)) text
    (alone (codes "the message has other words") (causes.Rule OtherWords) text
    (with (codes "the send does not time out at clock") (number_of 10) (λ x. causes.Rule (NotTimedOut x)) text
    (with (codes "the destination is the living thread") id_read (λ x. causes.Rule (HasDestination x)) text
    (alone (codes "no cancellation of the send is asked for") (causes.Rule SendNotCancelled) text
    (with (codes "the sender is not deleted but") state_read (λ x. causes.Rule (SenderNotDeleted x)) text
    (with (codes "the receive does not time out at clock") (number_of 10) (λ x. causes.Rule (ReceiveNotPassed x)) text
    (with (codes "the receive is not from nobody but from") id_read (λ x. causes.Rule (HasPartner x)) text
    (with (codes "the receiver accepts the waiting send of") thread_of (λ x. causes.Rule (AcceptsFirst x)) text
    (alone (codes "no cancellation of the receive is asked for") (causes.Rule ReceiveNotCancelled) text
    (alone (codes "the thread has no undone order") (causes.Rule AskedNothing) text
    (with (codes "the order is for the undeclared thread") thread_of (λ x. causes.Rule (TargetUndeclared x)) text
    (alone (codes "the machine has no such processor") (causes.Rule NoProcessor) text
    (with (codes "the clock is already at") (number_of 10) (λ x. causes.Rule (ClockAt x)) text
    (alone (codes "the clock stays below 4611686018427387904") (causes.Rule PastClocks) text
    (alone (codes "no retarget of this name is owed") (causes.Rule NotOwed) text
    (with (codes "the retarget is of the undeclared thread") thread_of (λ x. causes.Rule (OriginatorUndeclared x)) text
    (with (codes "the order is not admitted, as it is for the undeclared thread") thread_of causes.TargetUndeclared text
    (alone (codes "the order is not admitted, as the threads are of different spaces") causes.OtherSpace text
    None))))))))))))))))))))))))))))))))))))))

shown : Cause → List ℕ
shown c = (sentence c).0 ++ value_text (sentence c).1

is_read : (c : Cause) → has_word c ≡ true → read (shown c) ≡ Some c
unfolding read shown alone with tried behind
is_read (causes.Rule Undeclared) h = refl
is_read (causes.Rule (NotReady state)) h = ap (option_map (λ x. causes.Rule (NotReady x))) (state_is_read state)
is_read (causes.Rule NotLocal) h = refl
is_read (causes.Rule (NotNext number)) h = ap (option_map (λ x. causes.Rule (NotNext x))) (decimal_is_read number (ltb-true number (2 ^ 64) h))
is_read (causes.Rule NoSendPhase) h = refl
is_read (causes.Rule NoReceivePhase) h = refl
is_read (causes.Rule NoOrder) h = refl
is_read (causes.Rule (OtherOrder order)) h = ap (option_map (λ x. causes.Rule (OtherOrder x))) (order_is_read order h)
is_read (causes.Rule NotUndecided) h = refl
is_read (causes.Rule (NoReceiver id)) h = ap (option_map (λ x. causes.Rule (NoReceiver x))) (id_is_read id h)
is_read (causes.Rule (ReceiverDeleted thread)) h = ap (option_map (λ x. causes.Rule (ReceiverDeleted x))) (thread_is_read thread h)
is_read (causes.Rule Waiting) h = refl
is_read (causes.Rule NotWaiting) h = refl
is_read (causes.Rule (MustWait id)) h = ap (option_map (λ x. causes.Rule (MustWait x))) (id_is_read id h)
is_read (causes.Rule (NotReceiving state)) h = ap (option_map (λ x. causes.Rule (NotReceiving x))) (state_is_read state)
is_read (causes.Rule AcceptsNone) h = refl
is_read (causes.Rule (NotFirst thread)) h = ap (option_map (λ x. causes.Rule (NotFirst x))) (thread_is_read thread h)
is_read (causes.Rule (OtherReceiver thread)) h = ap (option_map (λ x. causes.Rule (OtherReceiver x))) (thread_is_read thread h)
is_read (causes.Rule (OtherShown thread)) h = ap (option_map (λ x. causes.Rule (OtherShown x))) (thread_is_read thread h)
is_read (causes.Rule (OtherSender thread)) h = ap (option_map (λ x. causes.Rule (OtherSender x))) (thread_is_read thread h)
is_read (causes.Rule (OtherTag word)) h = ap (option_map (λ x. causes.Rule (OtherTag x))) (hexadecimal_is_read word (ltb-true word (2 ^ 64) h))
is_read (causes.Rule OtherWords) h = refl
is_read (causes.Rule (NotTimedOut number)) h = ap (option_map (λ x. causes.Rule (NotTimedOut x))) (decimal_is_read number (ltb-true number (2 ^ 64) h))
is_read (causes.Rule (HasDestination id)) h = ap (option_map (λ x. causes.Rule (HasDestination x))) (id_is_read id h)
is_read (causes.Rule SendNotCancelled) h = refl
is_read (causes.Rule (SenderNotDeleted state)) h = ap (option_map (λ x. causes.Rule (SenderNotDeleted x))) (state_is_read state)
is_read (causes.Rule (ReceiveNotPassed number)) h = ap (option_map (λ x. causes.Rule (ReceiveNotPassed x))) (decimal_is_read number (ltb-true number (2 ^ 64) h))
is_read (causes.Rule (HasPartner id)) h = ap (option_map (λ x. causes.Rule (HasPartner x))) (id_is_read id h)
is_read (causes.Rule (AcceptsFirst thread)) h = ap (option_map (λ x. causes.Rule (AcceptsFirst x))) (thread_is_read thread h)
is_read (causes.Rule ReceiveNotCancelled) h = refl
is_read (causes.Rule AskedNothing) h = refl
is_read (causes.Rule (TargetUndeclared thread)) h = ap (option_map (λ x. causes.Rule (TargetUndeclared x))) (thread_is_read thread h)
is_read (causes.Rule NoProcessor) h = refl
is_read (causes.Rule (ClockAt number)) h = ap (option_map (λ x. causes.Rule (ClockAt x))) (decimal_is_read number (ltb-true number (2 ^ 64) h))
is_read (causes.Rule PastClocks) h = refl
is_read (causes.Rule NotOwed) h = refl
is_read (causes.Rule (OriginatorUndeclared thread)) h = ap (option_map (λ x. causes.Rule (OriginatorUndeclared x))) (thread_is_read thread h)
is_read (causes.TargetUndeclared thread) h = ap (option_map causes.TargetUndeclared) (thread_is_read thread h)
is_read causes.OtherSpace h = refl

pub one_cause : (r s : Cause) → has_word r ≡ true → has_word s ≡ true → cause_text r ≡ cause_text s → r ≡ s
unfolding shown
one_cause r s h k same =
    let text : shown r ≡ shown s =
    append_cancel_right (shown r) (shown s) (codes "\n") (append_cancel_left (codes "because ") (shown r ++ codes "\n") (shown s ++ codes "\n") same) in
    some_is r s (sym (is_read r h) ∙ ap read text ∙ is_read s k)
