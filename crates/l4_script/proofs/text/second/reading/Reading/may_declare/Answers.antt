use Rattle.std.proofs.Common.{◌≡◌, true, false, length, sym, ap, ◌∙◌, arith}
use Rattle.l4_script.specs.Machines.{is_taken}
use Rattle.l4_script.specs.Inner.Second.{heir_of}
use Rattle.l4_script.specs.Second.Texts.{Reading}
use Rattle.l4_script.proofs.Declaring.{too_many, doubled, free, one_free, first_taken, last_free}
use Rattle.l4_script.proofs.text.second.reading.Reading.may_declare.Goals as goal
use Rattle.l4_script.proofs.text.second.reading.Reading.may_declare.Goals.{then-numbers-test+else-not-has_number, else-numbers-test}

pub returns-then-threads-count : goal.returns-then-threads-count
returns-then-threads-count c =
    let many : length c.threads.result.now ≡ length c.args.self.now.machine.threads = ap length c.threads.ensures.value ∙ ap (λ (r : Reading). length r.machine.threads) c.self.view_is in
    sym (too_many (heir_of c.args.heir.now) c.args.self.now.machine c.requires (omega (arith, many, c.if-threads-count.true, c.requires, c.number-number.ensures)))

pub numbers-preserved : goal.numbers-preserved
numbers-preserved c =
    let none : is_taken c.numbers.number c.args.self.now.machine ≡ false = sym (ap (λ (r : Reading). is_taken c.numbers.number r.machine) c.self.view_is) ∙ sym c.has_number.ensures ∙ c.if-not-has_number.true in
    record {
      rises = omega arith;
      whole = c.numbers.invariant.whole ∙ one_free c.args.self.now.machine c.numbers.number c.args.heir.now.last c.numbers-test.true none;
    }

pub returns-then-has_number : goal.returns-then-has_number
returns-then-has_number c =
    let many : length c.threads.result.now ≡ length c.args.self.now.machine.threads = ap length c.threads.ensures.value ∙ ap (λ (r : Reading). length r.machine.threads) c.self.view_is in
    let taken : is_taken c.numbers.number c.args.self.now.machine ≡ true = sym (ap (λ (r : Reading). is_taken c.numbers.number r.machine) c.self.view_is) ∙ sym c.has_number-2.ensures ∙ c.if-has_number.true in
    sym (doubled (heir_of c.args.heir.now) c.args.self.now.machine c.requires (omega (arith, many, c.if-threads-count.false, c.requires, c.number-number.ensures))
    (c.numbers.invariant.whole ∙ first_taken c.args.self.now.machine c.numbers.number c.args.heir.now.last c.numbers.invariant.rises taken))

pub returns : goal.returns
returns c =
    let many : length c.threads.result.now ≡ length c.args.self.now.machine.threads = ap length c.threads.ensures.value ∙ ap (λ (r : Reading). length r.machine.threads) c.self.view_is in
    let none : is_taken c.numbers.number c.args.self.now.machine ≡ false = sym (ap (λ (r : Reading). is_taken c.numbers.number r.machine) c.self.view_is) ∙ sym c.has_number-2.ensures ∙ c.if-has_number.false in
    elim c.numbers-test.branch [
      | then-numbers-test+else-not-has_number w ↦ let taken : c.has_number-2.result ≡ true = c.has_number-2.ensures ∙ sym w.has_number.ensures ∙ w.if-not-has_number.false in absurd cc
      | else-numbers-test w ↦ sym (free (heir_of c.args.heir.now) c.args.self.now.machine c.requires (omega (arith, many, c.if-threads-count.false, c.requires, c.number-number.ensures))
          (c.numbers.invariant.whole ∙ last_free c.args.self.now.machine c.numbers.number c.args.heir.now.last c.numbers.invariant.rises w.numbers-test.false none))
    ]
