-- Offering a text piece by piece.
use Rattle.std.proofs.Common.{◌≡◌, ℕ, ◌<◌, List, [], ◌++◌, length, take, drop, Option, None, Some, Err, refl, subst, sym, ap, ◌∙◌, append_assoc, append-nil, take-append-drop, arith, length-append}
use Rattle.std.specs.Io.KnownBytes.{Appends, Keeps}
use Rattle.fc_base.specs.Devices.{HasCause, HasRisen, device_failed}
use Rattle.fc_base.specs.declared.faults.DeviceFault.{DeviceFault}
use Rattle.fc_base.specs.declared.faults.DeviceFault.TheVariants.{Failed, Memory}
use Rattle.std.proofs.lemmas.List.{take_at, nil_from_length}
use Rattle.fcdoc_core.specs.Plans.{Delivers, GavePart}

pub appends_nothing : (known : Option (List ℕ)) → Appends known known []
appends_nothing None = tt
appends_nothing (Some x) = sym (append-nil x)

pub appends_more : (a b c : Option (List ℕ)) (bs cs : List ℕ) → Appends a b bs → Appends b c cs → Appends a c (bs ++ cs)
appends_more None b c bs cs p q = tt
appends_more (Some x) None c bs cs p q = absurd p
appends_more (Some x) (Some y) None bs cs p q = absurd q
appends_more (Some x) (Some y) (Some z) bs cs p q = q ∙ ap (λ l. l ++ cs) p ∙ append_assoc x bs cs

pub appends_kept : (a b c : Option (List ℕ)) (bs : List ℕ) → Appends a b bs → Keeps b c → Appends a c bs
appends_kept None b c bs p q = tt
appends_kept (Some x) None c bs p q = absurd p
appends_kept (Some x) (Some y) None bs p q = absurd q
appends_kept (Some x) (Some y) (Some z) bs p q = q ∙ p

-- what was given so far of a piece, and what is left of it
pub record SoFar (piece rest : List ℕ) (before after : Option (List ℕ)) : Type 0 where
  pub given : List ℕ
  pub whole : piece ≡ given ++ rest
  pub appended : Appends before after given

pub so_far-start : (piece : List ℕ) (known : Option (List ℕ)) → SoFar piece piece known known
so_far-start piece known = record { given = []; whole = refl; appended = appends_nothing known }

-- a front of the rest was taken
pub so_far-goes_on : (piece rest : List ℕ) (n : ℕ) (before mid after : Option (List ℕ)) → SoFar piece rest before mid → Appends mid after (take n rest) → SoFar piece (drop n rest) before after
so_far-goes_on piece rest n before mid after s a = record {
  given = s.given ++ take n rest;
  whole = s.whole ∙ ap (λ l. s.given ++ l) (sym (take-append-drop n rest)) ∙ sym (append_assoc s.given (take n rest) (drop n rest));
  appended = appends_more before mid after s.given (take n rest) s.appended a;
}

-- nothing is left
pub so_far-ends : (piece rest : List ℕ) (before after : Option (List ℕ)) → SoFar piece rest before after → length rest ≡ 0 → Appends before after piece
so_far-ends piece rest before after s none =
    let all : piece ≡ s.given = s.whole ∙ ap (λ l. s.given ++ l) (nil_from_length rest none) ∙ append-nil s.given in
    rw all s.appended

-- something is left that is not taken
pub so_far-stops : (piece rest : List ℕ) (before mid after : Option (List ℕ)) → SoFar piece rest before mid → Keeps mid after → 0 < length rest → GavePart piece before after
so_far-stops piece rest before mid after s kept more = record {
  taken = length s.given;
  proper = rw (s.whole, length-append s.given rest) (omega arith);
  given = rw (s.whole, take_at s.given rest (length s.given) refl) (appends_kept before mid after s.given s.appended kept);
}

-- the offer of a rest that is not taken, by what the sink answers
pub delivers-stops : (piece rest : List ℕ) (before mid after : Option (List ℕ)) (first old new : ℕ) (e : DeviceFault) → SoFar piece rest before mid → old ≡ first
    → Keeps mid after → HasCause old new (device_failed {V = ℕ} (Err e)) → 0 < length rest → Delivers piece (Err e) before after first new
delivers-stops piece rest before mid after first old new Failed s same kept cause more = (so_far-stops piece rest before mid after s kept more, subst (λ (n : ℕ). HasRisen n new) same cause)
delivers-stops piece rest before mid after first old new (Memory e) s same kept cause more = (so_far-stops piece rest before mid after s kept more, cause ∙ same)
