-- `slow_reader::front` meets its contract: each way out is one law of `Lengths`.
use Rattle.std.proofs.Common.{◌≡◌, ◌+◌, ◌-◌, arith}
use Rattle.grammar.proofs.Grammar.{nothing_begins}
use Rattle.slow_reader.proofs.Lengths.{front_packet, front_misshapen, front_waiting}
use Rattle.slow_reader.proofs.front.Goals as goal

pub loop-n-init : goal.loop-n-init
loop-n-init c = nothing_begins

pub returns-in-Some-Packet : goal.returns-in-Some-Packet
returns-in-Some-Packet c = let p = c.in-Some-Packet in
    front_packet c.args.run.now c.args.at c.args.left c.loop-n.n c.loop-n-test.true (rw p.field-0-is at p.ensures)

pub returns-in-None : goal.returns-in-None
returns-in-None c = front_misshapen c.args.run.now c.args.at c.args.left c.loop-n.n c.loop-n-test.true c.loop-n.auto.n c.loop-n.invariant c.in-None.ensures

pub returns-in-Some-Beginning : goal.returns-in-Some-Beginning
returns-in-Some-Beginning c = let b = c.in-Some-Beginning in
    let all : c.loop-n.n ≡ c.args.left = omega arith in
    front_waiting c.args.run.now c.args.at c.args.left c.requires.1 (rw (← all) (rw b.field-0-is at b.ensures))

pub loop-n-preserved : goal.loop-n-preserved
loop-n-preserved c = let b = c.in-Some-Beginning in
    let z : c.loop-n.n + 1 - 1 ≡ c.loop-n.n = omega arith in
    rw z (rw b.field-0-is at b.ensures)
