-- Processors whose ports have come to rest.
use Rattle.std.specs.Prelude.{◌≡◌, ◌≢◌, ℕ, List, [], map, slice_get, Some, None}
use Rattle.l4_mail.specs.Ports.{account, kept_from}
use Rattle.l4_proc.specs.declared.processor.Processor.{Processor}

-- These are the processors as they were, in their order. Each worker is as it was, and each port
-- has its place and all that it has posted and taken.
pub record AreAsBefore (olds news : List Processor) : Type 0 where
  pub workers : map (λ p. p.worker) news ≡ map (λ p. p.worker) olds
  pub accounts : map (λ p. account p.port) news ≡ map (λ p. account p.port) olds

-- No letter is in hand, and no port keeps a letter of another one of these processors.
pub record HaveHandledAll (ps : List Processor) : Type 0 where
  pub hand : (i : ℕ) (p : Processor) → slice_get ps i ≡ Some p → p.worker.hand ≡ None
  pub kept : (i j : ℕ) (from to : Processor) → i ≢ j → slice_get ps i ≡ Some from →
      slice_get ps j ≡ Some to → kept_from to.port from.port.cpu ≡ []
