-- What is known of a reader and a writer after several calls.
use Rattle.std.proofs.Common.{◌≡◌, ℕ, ◌<◌, List, [], ◌++◌, Some, None, IfSome, length, length-append, refl, sym, ap, ◌∙◌, append_assoc, append-nil, arith}
use Rattle.std.specs.declared.option.Option.{Option}
use Rattle.std.specs.Io.KnownBytes.{Consumes, IsAtEnd, Appends, Keeps}

-- nothing was consumed
pub Consumes_nothing : (a : Option (List ℕ)) → Consumes a a []
Consumes_nothing None = tt
Consumes_nothing (Some x) = refl

-- two reads consume one after the other
pub Consumes_both : (a b c : Option (List ℕ)) (bs cs : List ℕ) → Consumes a b bs → Consumes b c cs → Consumes a c (bs ++ cs)
Consumes_both None b c bs cs p q = tt
Consumes_both (Some x) None c bs cs p q = absurd p
Consumes_both (Some x) (Some y) None bs cs p q = absurd q
Consumes_both (Some x) (Some y) (Some z) bs cs p q = p ∙ ap (λ l. bs ++ l) q ∙ sym (append_assoc bs cs z)

-- a reader that is at its end has given all
pub consumed_all : (a b : Option (List ℕ)) (bs : List ℕ) → Consumes a b bs → IsAtEnd b → IfSome a (λ xs. bs ≡ xs)
consumed_all None b bs p q = tt
consumed_all (Some x) None bs p q = absurd p
consumed_all (Some x) (Some y) bs p q = sym (p ∙ ap (λ l. bs ++ l) q ∙ append-nil bs)

-- a reader had no fewer bytes than it gave
pub had_more : (a b : Option (List ℕ)) (bs : List ℕ) (n : ℕ) → Consumes a b bs → n < length bs → IfSome a (λ xs. n < length xs)
had_more None b bs n p q = tt
had_more (Some x) None bs n p q = absurd p
had_more (Some x) (Some y) bs n p q = omega (arith, ap length p, length-append bs y)

-- nothing was appended
pub Appends_nothing : (a : Option (List ℕ)) → Appends a a []
Appends_nothing None = tt
Appends_nothing (Some x) = sym (append-nil x)

-- two writes append one after the other
pub Appends_both : (a b c : Option (List ℕ)) (bs cs : List ℕ) → Appends a b bs → Appends b c cs → Appends a c (bs ++ cs)
Appends_both None b c bs cs p q = tt
Appends_both (Some x) None c bs cs p q = absurd p
Appends_both (Some x) (Some y) None bs cs p q = absurd q
Appends_both (Some x) (Some y) (Some z) bs cs p q = q ∙ ap (λ l. l ++ cs) p ∙ append_assoc x bs cs

-- a write that took nothing
pub Appends_kept : (a b c : Option (List ℕ)) (bs : List ℕ) → Appends a b bs → Keeps b c → Appends a c bs
Appends_kept None b c bs p q = tt
Appends_kept (Some x) None c bs p q = absurd p
Appends_kept (Some x) (Some y) None bs p q = absurd q
Appends_kept (Some x) (Some y) (Some z) bs p q = q ∙ p
