-- The open elements, as a vector of their names has them.
use Rattle.std.proofs.Common.{◌≡◌, ◌-◌, ℕ, false, List, length, map, Some, sym, ap, ◌∙◌}
use Rattle.std.specs.Borrow.{Bor}
use Rattle.std.specs.List.{slice_get}
use Rattle.std.specs.Option.{option_map, option_map_or}
use Rattle.std.specs.Str.{bytes_eq}
use Rattle.std.proofs.lemmas.List.{length-map}
use Rattle.std.proofs.lemmas.Option.{slice_get-map}
use Rattle.fcxml_profile.specs.Standing.{is_innermost}

-- the innermost element, as the last of the names is looked at
pub innermost : (names : List (Bor (List ℕ))) (name : List ℕ) (inner : Bor (List ℕ)) → Some inner ≡ slice_get names (length names - 1) → bytes_eq inner.now name ≡ is_innermost name (map (λ n. n.now) names)
innermost names name inner last =
    let texts : List (Bor (List ℕ)) → List (List ℕ) = map (λ n. n.now) in
    let here : slice_get (texts names) (length (texts names) - 1) ≡ Some inner.now =
    slice_get-map (λ (n : Bor (List ℕ)). n.now) names (length (texts names) - 1)
    ∙ ap (λ k. option_map (λ (n : Bor (List ℕ)). n.now) (slice_get names (k - 1))) (length-map names (λ n. n.now))
    ∙ ap (option_map (λ (n : Bor (List ℕ)). n.now)) (sym last) in
    sym (ap (λ o. option_map_or (λ inner'. bytes_eq inner' name) o false) here)
