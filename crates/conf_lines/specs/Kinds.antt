-- The kinds of faults of a configuration: the number of each, by which a status tells it, and its name, by which a message does.
use Rattle.std.specs.Prelude.{ℕ, List, codes}
use Rattle.conf_lines.specs.declared.fault.ConfKind.{ConfKind}
use Rattle.conf_lines.specs.declared.fault.ConfKind.TheVariants.{UnknownWord, MissingWord, BadNumber, RateRange, BadAddress, BadByte, TooLong, InterfaceTwice, NoInterface, WrongDiscipline, NameTaken, NoParent, TwoRoots, TooDeep, TooManyClasses, TooManyFilters, TooManyInterfaces, ConvexFirst, NoShare, RealTimeInside, InnerQueue, TwoDefaults, NoDefault, NoClass, ConditionerTwice}

abbrev pub kind_number : ConfKind → ℕ
kind_number UnknownWord = 1
kind_number MissingWord = 2
kind_number BadNumber = 3
kind_number RateRange = 4
kind_number BadAddress = 5
kind_number BadByte = 6
kind_number TooLong = 7
kind_number InterfaceTwice = 8
kind_number NoInterface = 9
kind_number WrongDiscipline = 10
kind_number NameTaken = 11
kind_number NoParent = 12
kind_number TwoRoots = 13
kind_number TooDeep = 14
kind_number TooManyClasses = 15
kind_number TooManyFilters = 16
kind_number TooManyInterfaces = 17
kind_number ConvexFirst = 18
kind_number NoShare = 19
kind_number RealTimeInside = 20
kind_number InnerQueue = 21
kind_number TwoDefaults = 22
kind_number NoDefault = 23
kind_number NoClass = 24
kind_number ConditionerTwice = 25

abbrev pub kind_name : ConfKind → List ℕ
kind_name UnknownWord = codes "UnknownWord"
kind_name MissingWord = codes "MissingWord"
kind_name BadNumber = codes "BadNumber"
kind_name RateRange = codes "RateRange"
kind_name BadAddress = codes "BadAddress"
kind_name BadByte = codes "BadByte"
kind_name TooLong = codes "TooLong"
kind_name InterfaceTwice = codes "InterfaceTwice"
kind_name NoInterface = codes "NoInterface"
kind_name WrongDiscipline = codes "WrongDiscipline"
kind_name NameTaken = codes "NameTaken"
kind_name NoParent = codes "NoParent"
kind_name TwoRoots = codes "TwoRoots"
kind_name TooDeep = codes "TooDeep"
kind_name TooManyClasses = codes "TooManyClasses"
kind_name TooManyFilters = codes "TooManyFilters"
kind_name TooManyInterfaces = codes "TooManyInterfaces"
kind_name ConvexFirst = codes "ConvexFirst"
kind_name NoShare = codes "NoShare"
kind_name RealTimeInside = codes "RealTimeInside"
kind_name InnerQueue = codes "InnerQueue"
kind_name TwoDefaults = codes "TwoDefaults"
kind_name NoDefault = codes "NoDefault"
kind_name NoClass = codes "NoClass"
kind_name ConditionerTwice = codes "ConditionerTwice"
