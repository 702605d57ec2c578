-- Items gathered one by one, before the first fault.
use Rattle.std.proofs.Common.{List, ◌++◌, Result, Ok, Err}

-- items in front of the others
abbrev pub after : {A F : Type 0} → List A → Result (List A) F → Result (List A) F
after xs (Ok ys) = Ok (xs ++ ys)
after xs (Err fault) = Err fault
