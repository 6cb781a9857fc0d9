-- The answers that a call can give, by the names of RULES 2.1: Done, or a refusal; and their numbers.
use Rattle.std.specs.Prelude.{Result, Ok, Err, ℕ}
use Rattle.order.specs.declared.Fault.{Fault}
use Rattle.order.specs.declared.Refusal.{Refusal}
use Rattle.order.specs.declared.Refusal.TheVariants as refusal

-- an answer that gives nothing more
abbrev pub Answer : Type 0
Answer = Result (Unit {0}) Refusal

-- the answer alone of a call that gives more with Done
abbrev pub answer_of : {A : Type 0} → Result A Refusal → Answer
answer_of (Ok x) = Ok tt
answer_of (Err why) = Err why

-- the answers by name
abbrev pub Done : Answer
Done = Ok tt

abbrev pub SizeMismatch : Answer
SizeMismatch = Err refusal.SizeMismatch

abbrev pub InvalidValue : Answer
InvalidValue = Err refusal.InvalidValue

abbrev pub WorkTooShort : Answer
WorkTooShort = Err refusal.WorkTooShort

abbrev pub BrokenFat : Fault → Answer
BrokenFat f = Err (refusal.BrokenFat f)

abbrev pub NotAFile : Answer
NotAFile = Err refusal.NotAFile

abbrev pub NoSpace : Answer
NoSpace = Err refusal.NoSpace

abbrev pub OutOfBound : Answer
OutOfBound = Err refusal.OutOfBound

abbrev pub ListTooShort : Answer
ListTooShort = Err refusal.ListTooShort

abbrev pub BrokenTree : Answer
BrokenTree = Err refusal.BrokenTree

abbrev pub NotFound : Answer
NotFound = Err refusal.NotFound

abbrev pub AlreadyExist : Answer
AlreadyExist = Err refusal.AlreadyExist

abbrev pub Busy : Answer
Busy = Err refusal.Busy

abbrev pub DeletingRoot : Answer
DeletingRoot = Err refusal.DeletingRoot

abbrev pub NotEmpty : Answer
NotEmpty = Err refusal.NotEmpty

abbrev pub IntoItself : Answer
IntoItself = Err refusal.IntoItself

abbrev pub NotOpen : Answer
NotOpen = Err refusal.NotOpen

abbrev pub TooManyOpens : Answer
TooManyOpens = Err refusal.TooManyOpens

abbrev pub ReadOnlyVolume : Answer
ReadOnlyVolume = Err refusal.ReadOnlyVolume

-- the number of a refusal (RULES 2.1)
abbrev pub number_with : Refusal → ℕ
number_with refusal.SizeMismatch = 1
number_with refusal.InvalidValue = 2
number_with refusal.WorkTooShort = 3
number_with (refusal.BrokenFat f) = 4
number_with refusal.NotAFile = 5
number_with refusal.NoSpace = 6
number_with refusal.OutOfBound = 7
number_with refusal.ListTooShort = 8
number_with refusal.BrokenTree = 9
number_with refusal.NotFound = 10
number_with refusal.AlreadyExist = 11
number_with refusal.Busy = 12
number_with refusal.DeletingRoot = 13
number_with refusal.NotEmpty = 14
number_with refusal.IntoItself = 15
number_with refusal.NotOpen = 16
number_with refusal.TooManyOpens = 17
number_with refusal.ReadOnlyVolume = 20

-- the number of an answer: 0 is Done
abbrev pub number_of : Answer → ℕ
number_of (Ok done) = 0
number_of (Err why) = number_with why

-- entry e of a block table breaks rule r (RULES 3.6)
abbrev pub fault : (e r : ℕ) → Fault
fault e r = record { entry = e; rule = r }

-- no entry, no rule
abbrev pub unbroken : Fault
unbroken = fault 0 0

-- what a refusal says of it: nothing, but for BrokenFat
abbrev pub fault_with : Refusal → Fault
fault_with refusal.SizeMismatch = unbroken
fault_with refusal.InvalidValue = unbroken
fault_with refusal.WorkTooShort = unbroken
fault_with (refusal.BrokenFat f) = f
fault_with refusal.NotAFile = unbroken
fault_with refusal.NoSpace = unbroken
fault_with refusal.OutOfBound = unbroken
fault_with refusal.ListTooShort = unbroken
fault_with refusal.BrokenTree = unbroken
fault_with refusal.NotFound = unbroken
fault_with refusal.AlreadyExist = unbroken
fault_with refusal.Busy = unbroken
fault_with refusal.DeletingRoot = unbroken
fault_with refusal.NotEmpty = unbroken
fault_with refusal.IntoItself = unbroken
fault_with refusal.NotOpen = unbroken
fault_with refusal.TooManyOpens = unbroken
fault_with refusal.ReadOnlyVolume = unbroken

-- what an answer says of it
abbrev pub fault_in : Answer → Fault
fault_in (Ok done) = unbroken
fault_in (Err why) = fault_with why
