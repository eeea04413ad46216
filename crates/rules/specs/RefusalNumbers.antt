-- The numbers that documents 01 and 02 give the refusals, and the number of an answer.
use Rattle.std.specs.Prelude.{ℕ, Result, Ok, Err}
use Rattle.rules.specs.declared.refusal.Refusal.{Refusal}
use Rattle.rules.specs.declared.refusal.Refusal.TheVariants.{Unsound, AboveLimit, InUse, NotLive, NothingRuns, NotAServer, Itself, RunsAClient, NotBlocked, NotLinked, BadCharge, NoQuantum, OwnsOne, BadLength, BadVersion, BadRecord, NoRoom, NotSpent, NoSuchEvent, BadBlock, NoSuchRegister, NoLine, BadRow, Overlap, Gap, NeverRefused, NotAboveHeld}

abbrev pub number_of : Refusal → ℕ
-- document 01, operation by operation: "Every operation first refuses an unsound machine with 1."
number_of Unsound = 1
-- "2 (number above 127), 3 (number in use)", "4 (no such live thread)"
number_of AboveLimit = 2
number_of InUse = 3
number_of NotLive = 4
-- "5 (nothing runs)", "6 (not a server), 7 (itself)", "8 (the running thread is a client)"
number_of NothingRuns = 5
number_of NotAServer = 6
number_of Itself = 7
number_of RunsAClient = 8
-- "9 (not Blocked)", "10 (neither Calling nor Helping)", "11 (0, or more than is left)"
number_of NotBlocked = 9
number_of NotLinked = 10
number_of BadCharge = 11
-- "13 (it owns one already), 12 (quantum 0)"
number_of NoQuantum = 12
number_of OwnsOne = 13
-- "14 (fewer than 4 bytes, ..), 15 (version not 1), 16 (a record with unknown kind, ..)", "17 (the record would pass the buffer ..)"
number_of BadLength = 14
number_of BadVersion = 15
number_of BadRecord = 16
number_of NoRoom = 17
-- document 02, [2]: "18, refill of a live timeslice that is not Spent"; [5]: "19, no such event in the file"
number_of NotSpent = 18
number_of NoSuchEvent = 19
-- [9]: "20, a block that is not 12 bytes", "21, register above 11, a write to byte 3, or line above 7", "22, no line to take at a poll"
number_of BadBlock = 20
number_of NoSuchRegister = 21
number_of NoLine = 22
-- [10]: "23, a row outside the range or with first above last, or more than 64 rows; 24, overlap; 25, gap"
number_of BadRow = 23
number_of Overlap = 24
number_of Gap = 25
-- [11]: "26, no event of the file is refused with that number"; [12]: "27, order number not above the one held for
-- that thread"
number_of NeverRefused = 26
number_of NotAboveHeld = 27

-- the refusal number of an answer, 0 for an accepted one
abbrev pub number_in : {A : Type 0} → Result A Refusal → ℕ
number_in (Ok a) = 0
number_in (Err refusal) = number_of refusal

-- the links of an answer: "A refusal hands back .. 0 links followed."
abbrev pub links_in : Result ℕ Refusal → ℕ
links_in (Ok links) = links
links_in (Err refusal) = 0
