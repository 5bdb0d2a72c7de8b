-- Conservation and validity, by what each take and each finish keep.
use native.Mathlib.Omega.{arith}
use Rattle.held.proofs.Cover.{fresh_slots, fresh_valid}
use Rattle.transmit.specs.Keeps.{TakeKeeps, FinishKeeps}
use Rattle.transmit.proofs.Keeps.{take_keeps, finish_keeps}
use Rattle.sequences.specs.Conservation.{Calls, Conservation, StaysValid}

pub conservation : Conservation
unfolding Conservation TakeKeeps FinishKeeps
conservation _ _ _ _ _ _ (Calls.fresh c l h) = omega (arith, fresh_slots l h)
conservation _ _ _ _ _ _ (Calls.takes {consumed} {replied} {mark} {l} {took} {sent} z table window page frame o h) =
    omega (arith, conservation consumed replied mark l took sent z, (take_keeps table window consumed replied mark page frame l o h).0.sums)
conservation _ _ _ _ _ _ (Calls.finishes {consumed} {replied} {mark} {l} {took} {sent} z page ticket status o h) =
    omega (arith, conservation consumed replied mark l took sent z, (finish_keeps consumed replied page l ticket status o h).0.sums)

pub stays_valid : StaysValid
unfolding StaysValid TakeKeeps FinishKeeps
stays_valid _ _ _ _ _ _ (Calls.fresh c l h) few = fresh_valid c l few h
stays_valid _ _ _ _ _ _ (Calls.takes {consumed} {replied} {mark} {l} {took} {sent} z table window page frame o h) few =
    let k = (take_keeps table window consumed replied mark page frame l o h).0 in
    k.stays (stays_valid consumed replied mark l took sent z (omega (arith, k.long)))
stays_valid _ _ _ _ _ _ (Calls.finishes {consumed} {replied} {mark} {l} {took} {sent} z page ticket status o h) few =
    let k = (finish_keeps consumed replied page l ticket status o h).0 in
    k.stays (stays_valid consumed replied mark l took sent z (omega (arith, k.long)))
