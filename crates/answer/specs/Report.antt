-- Document 01, "Answer numbers": what a call reports, and what it leaves of a queue.
use Rattle.std.specs.Prelude.{Bool, true, false, ◌||◌, ℕ, eqb}
use Rattle.answer.specs.declared.Queue.{Queue}
use Rattle.answer.specs.declared.Summary.{Summary}
use Rattle.answer.specs.declared.Answer.{Answer}
use Rattle.answer.specs.declared.Answer.TheVariants.{Done, BadPage, HaltedAlready, Overflow, Spoiled, BadLength, NoBuffers}

-- the queue, halted
abbrev pub halt : Queue → Queue
halt q = record { consumed = q.consumed; halted = true }

-- a queue that goes on from a counter
abbrev pub go_on : ℕ → Queue
go_on c = record { consumed = c; halted = false }

-- the eleven words of a report
pub record Report : Type 0 where
  pub answer : ℕ
  pub cause : ℕ
  pub place : ℕ
  pub slots : ℕ
  pub notifies : ℕ
  pub total : ℕ
  pub blank : ℕ
  pub validated : ℕ
  pub gso_size_word : ℕ
  pub gso_type_word : ℕ
  pub ticket_word : ℕ

-- the answers that halt the queue, and those that ask for an event
abbrev pub halts : ℕ → Bool
halts n = eqb n 3 || eqb n 5

abbrev pub asks : ℕ → Bool
asks n = eqb n 4 || eqb n 6 || eqb n 10

-- a yes or a no as a word
abbrev pub flag : Bool → ℕ
flag true = 1
flag false = 0

-- an answer whose other fields are 0
abbrev pub plain : ℕ → Report
plain n = record { answer = n; cause = 0; place = 0; slots = 0; notifies = 0; total = 0; blank = 0; validated = 0; gso_size_word = 0; gso_type_word = 0; ticket_word = 0 }

-- spoiled, with cause, place, slots consumed and notify
abbrev pub spoiled_report : ℕ → ℕ → ℕ → Bool → Report
spoiled_report c k n notified = record { answer = 7; cause = c; place = k; slots = n; notifies = flag notified; total = 0; blank = 0; validated = 0; gso_size_word = 0; gso_type_word = 0; ticket_word = 0 }

-- done, with what is said of the packet or the frame
abbrev pub done_report : Summary → Bool → Report
done_report s notified = record {
  answer = 0;
  cause = 0;
  place = 0;
  slots = s.slots;
  notifies = flag notified;
  total = s.total;
  blank = flag s.checksum_blank;
  validated = flag s.data_validated;
  gso_size_word = s.gso_size;
  gso_type_word = s.gso_type;
  ticket_word = 0;
}

-- done, with what is said of a packet that is held, and its ticket
abbrev pub taken_report : Summary → ℕ → Report
taken_report s ticket = record {
  answer = 0;
  cause = 0;
  place = 0;
  slots = s.slots;
  notifies = 0;
  total = s.total;
  blank = flag s.checksum_blank;
  validated = flag s.data_validated;
  gso_size_word = s.gso_size;
  gso_type_word = s.gso_type;
  ticket_word = ticket;
}

-- so many slots and a total, no flag and no gso
abbrev pub plain_summary : ℕ → ℕ → Summary
plain_summary n total = record { slots = n; total = total; checksum_blank = false; data_validated = false; gso_size = 0; gso_type = 0 }

-- the number and the words of each answer of a call that holds no packet
abbrev pub report_of : Answer → Report
report_of (Done s notified) = done_report s notified
report_of BadPage = plain 1
report_of HaltedAlready = plain 2
report_of Overflow = plain 3
report_of (Spoiled c k n notified) = spoiled_report c k n notified
report_of BadLength = plain 9
report_of NoBuffers = plain 10
