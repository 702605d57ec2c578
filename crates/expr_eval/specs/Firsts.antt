-- The first fault from the left, among results.
use Rattle.std.specs.Prelude.{List, [], ◌∷◌, Result, Ok, Err}

-- what comes of a result, where there is one
abbrev pub on_one : {A B F : Type 0} → (A → Result B F) → Result A F → Result B F
on_one f (Ok x) = f x
on_one f (Err fault) = Err fault

-- what comes of two results, where there are both; else the first fault
abbrev pub on_two : {A B C F : Type 0} → (A → B → Result C F) → Result A F → Result B F → Result C F
on_two f (Ok x) (Ok y) = f x y
on_two f (Ok x) (Err fault) = Err fault
on_two f (Err fault) y = Err fault

-- what comes of three
abbrev pub on_three : {A B C D F : Type 0} → (A → B → C → Result D F) → Result A F → Result B F → Result C F → Result D F
on_three f (Ok x) y z = on_two (f x) y z
on_three f (Err fault) y z = Err fault

-- one more item
abbrev pub with_item : {A F : Type 0} → A → Result (List A) F → Result (List A) F
with_item x (Ok xs) = Ok (x ∷ xs)
with_item x (Err fault) = Err fault

-- the items, where there are all of them; else the first fault
abbrev pub all_of : {A F : Type 0} → List (Result A F) → Result (List A) F
all_of [] = Ok []
all_of (Ok x ∷ results) = with_item x (all_of results)
all_of (Err fault ∷ results) = Err fault
