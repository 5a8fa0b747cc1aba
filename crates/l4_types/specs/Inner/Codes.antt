-- The words of the register ErrorCode.
use Rattle.std.specs.Prelude.{ℕ, ◌+◌, ◌*◌}
use Rattle.l4_types.specs.declared.errors.IpcError.{IpcError}
use Rattle.l4_types.specs.declared.errors.IpcError.TheVariants.{SendTimeout, ReceiveTimeout, SendNobody, ReceiveNobody, SendCancelled, ReceiveCancelled}

-- 0 for a send phase that failed, 1 for a receive phase.
abbrev pub phase_bit : IpcError → ℕ
phase_bit SendTimeout = 0
phase_bit ReceiveTimeout = 1
phase_bit SendNobody = 0
phase_bit ReceiveNobody = 1
phase_bit SendCancelled = 0
phase_bit ReceiveCancelled = 1

-- 1 for a timeout, 2 for a partner that does not exist, 3 for a cancellation.
abbrev pub cause_number : IpcError → ℕ
cause_number SendTimeout = 1
cause_number ReceiveTimeout = 1
cause_number SendNobody = 2
cause_number ReceiveNobody = 2
cause_number SendCancelled = 3
cause_number ReceiveCancelled = 3

-- Bit 0 is the phase, bits 1 to 3 are the cause.
abbrev pub code_of : IpcError → ℕ
code_of error = 2 * cause_number error + phase_bit error
