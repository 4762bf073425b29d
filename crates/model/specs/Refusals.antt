-- The status of calls, and its numbers (document 01, the table of refusals). Assumes nothing: these are definitions.
use Rattle.std.specs.Prelude.{ℕ, Bool, true, false}
use Rattle.model.specs.declared.Status.{Status}
use Rattle.model.specs.declared.Status.TheVariants.{Accepted, Disordered, WrongLength, BadSchema, BadRequest, OtherDatabase, BadFreshIds, AnswerTooLong, BadRecord, OtherRun, NumbersSpent, Repeat, Behind, Heard, Applied}

-- each status's number: document 01's numbers of refusals; 0 where a call is accepted, and what a mirror answers to what it has heard
abbrev pub number_of : Status → ℕ
number_of Accepted = 0
number_of Disordered = 1
number_of WrongLength = 2
number_of BadSchema = 3
number_of BadRequest = 4
number_of OtherDatabase = 5
number_of BadFreshIds = 6
number_of AnswerTooLong = 7
number_of BadRecord = 8
number_of OtherRun = 9
number_of NumbersSpent = 10
number_of Repeat = 100
number_of Behind = 101
number_of Heard = 102
number_of Applied = 103

-- a call is refused by the numbers 1 to 10
abbrev pub is_refusal : Status → Bool
is_refusal Accepted = false
is_refusal Disordered = true
is_refusal WrongLength = true
is_refusal BadSchema = true
is_refusal BadRequest = true
is_refusal OtherDatabase = true
is_refusal BadFreshIds = true
is_refusal AnswerTooLong = true
is_refusal BadRecord = true
is_refusal OtherRun = true
is_refusal NumbersSpent = true
is_refusal Repeat = false
is_refusal Behind = false
is_refusal Heard = false
is_refusal Applied = false
