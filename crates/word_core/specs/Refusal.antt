-- The refusals: their names, and the one order in which the conditions of a command are checked.
use Rattle.std.specs.Prelude.{ℕ, List, codes}
use Rattle.word_core.specs.declared.refusal.Refusal.{Refusal}
use Rattle.word_core.specs.declared.refusal.Refusal.TheVariants.{KeyTaken, NoSuch, BadNumber, NameTaken}
use Rattle.word_core.specs.declared.refusal.Refusal.TheVariants.{WrongFlag, Retired, Cycle, InUse, Unfit}
use Rattle.word_core.specs.declared.refusal.Refusal.TheVariants.{NotLoose, Serialised, NotSerialised, HasContent}
use Rattle.word_core.specs.declared.refusal.Refusal.TheVariants.{Allocated, Unavailable, OverNeed, Short}
use Rattle.word_core.specs.declared.refusal.Refusal.TheVariants.{SerialTaken, SerialCount, WrongState, Mismatch}
use Rattle.word_core.specs.declared.refusal.Refusal.TheVariants.{TooDeep, SelfInside, TooLarge, Full, OpenOutputs}

abbrev pub refusal_name : Refusal → List ℕ
refusal_name KeyTaken = codes "KeyTaken"
refusal_name NoSuch = codes "NoSuch"
refusal_name BadNumber = codes "BadNumber"
refusal_name NameTaken = codes "NameTaken"
refusal_name WrongFlag = codes "WrongFlag"
refusal_name Retired = codes "Retired"
refusal_name WrongState = codes "WrongState"
refusal_name Mismatch = codes "Mismatch"
refusal_name OpenOutputs = codes "OpenOutputs"
refusal_name InUse = codes "InUse"
refusal_name Cycle = codes "Cycle"
refusal_name SelfInside = codes "SelfInside"
refusal_name Unfit = codes "Unfit"
refusal_name NotLoose = codes "NotLoose"
refusal_name Serialised = codes "Serialised"
refusal_name NotSerialised = codes "NotSerialised"
refusal_name HasContent = codes "HasContent"
refusal_name Unavailable = codes "Unavailable"
refusal_name Short = codes "Short"
refusal_name Allocated = codes "Allocated"
refusal_name OverNeed = codes "OverNeed"
refusal_name SerialCount = codes "SerialCount"
refusal_name SerialTaken = codes "SerialTaken"
refusal_name TooDeep = codes "TooDeep"
refusal_name TooLarge = codes "TooLarge"
refusal_name Full = codes "Full"

-- the place of a refusal in the order of checks, which is the same for every command
abbrev pub rank : Refusal → ℕ
rank KeyTaken = 0
rank NoSuch = 1
rank BadNumber = 2
rank NameTaken = 3
rank WrongFlag = 4
rank Retired = 5
rank WrongState = 6
rank Mismatch = 7
rank OpenOutputs = 8
rank InUse = 9
rank Cycle = 10
rank SelfInside = 11
rank Unfit = 12
rank NotLoose = 13
rank Serialised = 14
rank NotSerialised = 15
rank HasContent = 16
rank Unavailable = 17
rank Short = 18
rank Allocated = 19
rank OverNeed = 20
rank SerialCount = 21
rank SerialTaken = 22
rank TooDeep = 23
rank TooLarge = 24
rank Full = 25
