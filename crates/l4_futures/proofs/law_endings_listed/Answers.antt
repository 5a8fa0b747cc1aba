use Rattle.std.proofs.Common.{refl}
use Rattle.l4_futures.proofs.law_endings_listed.Goals as goal

pub returns : goal.returns
returns c = λ m traces depth all h w reaches still untimed.
    all.whole refl h w (record {
      comes = record { reaches = reaches; still = still };
      untimed = untimed;
    })
