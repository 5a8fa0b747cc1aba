-- The values of the code, as the definitions have them.
use Rattle.l4_expect.specs.declared.expectations.Expectation.{Expectation}
use Rattle.l4_expect.specs.Expected.{Expected}

abbrev pub expected_of : Expectation → Expected
expected_of e = record { number = e.number; never = e.never; asked = e.asked.now }
