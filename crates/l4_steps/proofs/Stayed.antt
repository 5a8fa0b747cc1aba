-- What a command makes of a session is a session.
use Rattle.std.proofs.Common.{◌≡◌, ℕ, ◌-◌, ◌<◌, Bool, true, false, cond, Option, Some, None, List, [], ◌++◌, length, take, refl, ap, ◌∙◌, arith, length-append}
use Rattle.std.proofs.Math.Seq.{take-append_seam}
use Rattle.std.specs.Prelude.{is_some, nat_le, nat_lt}
use Rattle.std.proofs.lemmas.Bool.Decides.{nat_tests}
use Rattle.l4_model.specs.Machine.{Machine}
use Rattle.l4_core_model.specs.Schedules.{Entry}
use Rattle.l4_chart.specs.Listings.{Listing}
use Rattle.l4_chart.specs.declared.whole.TextForm.{TextForm}
use Rattle.l4_replay.specs.Entries.{most_entries}
use Rattle.l4_steps.specs.Commands.{Command, Do, Back, Next, State, Chart, Record, Help, Quit, Unknown}
use Rattle.l4_steps.specs.Possible.{next_behind}
use Rattle.l4_steps.specs.Replies.{does, does_possible, few_text, goes_back, moves, named, reply_to_command, tells}
use Rattle.l4_steps.specs.Sessions.{IsSession}
use Rattle.l4_steps.proofs.Done.{one_more, taken}
use Rattle.l4_steps.proofs.Named.{own_named}
use Rattle.l4_steps.specs.declared.replies.TheConstants.{TOO_MANY}

pub opening : (m : Machine) → IsSession m []
opening m = record { few = omega arith; lawful = refl; done = refl }

stays_done : (m : Machine) (es : List Entry) (word : List ℕ) → IsSession m es → IsSession m (does m es (named m es word)).entries
stays_done m es word s = by (named m es word) refl
  where
    possible : (e : Entry) → named m es word ≡ Some e → length es < most_entries → (b : Bool) → is_some (next_behind m es e) ≡ b →
        IsSession m (does_possible m es e b).entries
    possible e is few true can = one_more m es e s (own_named m es word e is) few can
    possible e is few false can = s

    room : (e : Entry) → named m es word ≡ Some e → (b : Bool) → nat_lt (length es) most_entries ≡ b →
        IsSession m (cond b (does_possible m es e (is_some (next_behind m es e))) (tells es TOO_MANY.now)).entries
    room e is true test = possible e is (grind (arith, nat_tests, test)) (is_some (next_behind m es e)) refl
    room e is false test = s

    by : (o : Option Entry) → named m es word ≡ o → IsSession m (does m es o).entries
    by None is = s
    by (Some e) is = room e is (nat_lt (length es) most_entries) refl

stays_back : (m : Machine) (es : List Entry) (count : ℕ) → IsSession m es → IsSession m (goes_back m es count).entries
stays_back m es count s = by (nat_le count (length es))
  where
    by : (b : Bool) → IsSession m (cond b (moves m [] (take (length es - count) es)) (tells es (few_text (length es)))).entries
    by true = taken m (length es - count) es s
    by false = s

pub stays : (m : Machine) (listing : Listing) (form : TextForm) (es : List Entry) (command : Command) → IsSession m es →
    IsSession m (reply_to_command m listing form es command).entries
stays m listing form es (Do word) s = stays_done m es word s
stays m listing form es (Back count) s = stays_back m es count s
stays m listing form es Next s = s
stays m listing form es State s = s
stays m listing form es Chart s = s
stays m listing form es Record s = s
stays m listing form es Help s = s
stays m listing form es Quit s = s
stays m listing form es Unknown s = s

-- So many entries back stands what stood there before them.
pub gone_back : (m : Machine) (es more : List Entry) → (goes_back m (es ++ more) (length more)).entries ≡ es
gone_back m es more =
    let longer = length-append es more in
    let room : nat_le (length more) (length (es ++ more)) ≡ true = grind (arith, nat_tests, longer) in
    let same : length (es ++ more) - length more ≡ length es = omega (arith, longer) in
    ap (λ b. (cond b (moves m [] (take (length (es ++ more) - length more) (es ++ more))) (tells (es ++ more) (few_text (length (es ++ more))))).entries) room
    ∙ ap (λ n. take n (es ++ more)) same
    ∙ take-append_seam es more
