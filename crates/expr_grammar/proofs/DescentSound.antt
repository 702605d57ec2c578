-- What the descent reads has the tree that it gives.
use Rattle.std.proofs.Common.{◌≡◌, ℕ, ℤ, Bool, true, false, List, [], ◌∷◌, ◌++◌, Option, None, Some, refl, sym, ◌∙◌, ap, subst, append_assoc, codes, IsTrue}
use Rattle.std.specs.Str.{bytes_eq}
use Rattle.std.proofs.lemmas.Slice.Eq.{bytes_eq-Decides}
use Rattle.fc_base.specs.Texts.{is_label}
use Rattle.object_paths.specs.declared.slot_name.SlotName.{SlotName}
use Rattle.object_paths.specs.declared.slot_name.SlotName.TheVariants as slot
use Rattle.object_paths.specs.declared.path.Owner as w
use Rattle.object_paths.specs.declared.path.Owner.TheVariants as owner
use Rattle.object_paths.specs.declared.path.Path.{Path}
use Rattle.expr_tree.specs.declared.functions.FunctionOp as f
use Rattle.expr_tree.specs.declared.functions.AggregateOp as g
use Rattle.expr_tokens.specs.declared.sign.Sign as s
use Rattle.expr_tokens.specs.declared.sign.Sign.TheVariants as sign
use Rattle.expr_tokens.specs.declared.token.Token.{Token}
use Rattle.expr_tokens.specs.declared.token.Token.TheVariants as token
use Rattle.expr_grammar.specs.Descent.{Parsed, ◌>>=◌, Readers, behind_sign, sign_in_front, exponent_in_front, measured, numeral_behind, slot_in_front, named_path, as_tree, slot_of_label, own_slot, text_or_label, closed, with_bracket, separates, behind_separating, behind_separator, second_argument, called, call, signed_primary, primary_step}
use Rattle.expr_tree.specs.Functions.{function_name, function_named, modulo_name, aggregate_name, aggregate_named}
use Rattle.expr_grammar.specs.Grammar.{Level, expression, powers, primary, alone, raised, IsSeparator, semicolon, comma, HoldsExponent, HasTree, a_numeral, a_measure, a_unit, a_flag, a_text, a_path, in_brackets, a_function, a_modulo, an_aggregate, HasArguments}
use Rattle.expr_grammar.specs.PathTokens.{dot, owner_tokens, slot_tokens, IsPathOf, plain, behind_point}
use Rattle.expr_tree.specs.Tree.{Tree, literal, path, function, modulo, aggregate, Arguments}
use Rattle.expr_grammar.proofs.FrontLemmas.{AllParsed, AllRests, bind-all, behind, joined, behind_sign-rest, sign_in_front-rest, BeginsWithExponent, exponent_in_front-rest}
use Rattle.expr_grammar.proofs.PathFrontLemmas.{AllSome, on_cond, BeginsWith, slot_in_front-rest, BeginsWithPath, named_path-rest}

-- a tree of a level in front
pub record ReadsTree (l : Level) (ts : List Token) (t : Tree) (rest : List Token) : Type 0 where
  pub used : List Token
  pub split : ts ≡ used ++ rest
  pub tree : HasTree l used t

-- a primary in front; where it holds its exponent none follows it
pub record ReadsBase (ts : List Token) (t : Tree) (rest : List Token) : Type 0 where
  pub used : List Token
  pub split : ts ≡ used ++ rest
  pub tree : HasTree primary used t
  pub held : HoldsExponent used → behind_sign sign.Caret rest ≡ None

-- tokens in front go on with a tree of the level
pub record GoesOn (l : Level) (left : Tree) (ts : List Token) (t : Tree) (rest : List Token) : Type 0 where
  pub used : List Token
  pub split : ts ≡ used ++ rest
  pub tree : (front : List Token) → HasTree l front left → HasTree l (front ++ used) t

-- tokens in front raise a base that no `^` belongs to
pub record RaisesBase (base : Tree) (ts : List Token) (t : Tree) (rest : List Token) : Type 0 where
  pub used : List Token
  pub split : ts ≡ used ++ rest
  pub tree : (front : List Token) → HasTree powers front base → (HoldsExponent front → behind_sign sign.Caret ts ≡ None) → HasTree powers (front ++ used) t

-- arguments in front
pub record ReadsArguments (ts : List Token) (all : Arguments) (rest : List Token) : Type 0 where
  pub used : List Token
  pub split : ts ≡ used ++ rest
  pub arguments : HasArguments used all

-- readers whose results have their trees
pub record Sound (r : Readers) : Type 0 where
  pub of_level : (l : Level) (ts : List Token) → AllParsed (ReadsTree l ts) (r.of_level l ts)
  pub base : (ts : List Token) → AllParsed (ReadsBase ts) (r.of_level primary ts)
  pub operands : (l : Level) (left : Tree) (ts : List Token) → AllParsed (GoesOn l left ts) (r.operands l left ts)
  pub exponents : (base : Tree) (ts : List Token) → AllParsed (RaisesBase base ts) (r.exponents base ts)
  pub arguments : (ts : List Token) → AllParsed (ReadsArguments ts) (r.arguments ts)

pub weaker : {A : Type 0} (P Q : A → List Token → Type 0) (x : Parsed A) → ((a : A) (rest : List Token) → P a rest → Q a rest) → AllParsed P x → AllParsed Q x
weaker P Q None go all = tt
weaker P Q (Some x) go all = go x.0 x.1 all

-- numbers

measured-sound : (amount : ℤ) (number : Option ℕ) (name : List ℕ) (ts : List Token) (x : Option (List Token)) → behind_sign sign.Caret ts ≡ x
    → AllRests (λ rest. ts ≡ token.Sign sign.Caret ∷ rest) x
    → AllParsed (ReadsBase (token.Numeral amount number ∷ token.Unit name ∷ ts)) (measured amount name x ts)
measured-sound amount number name ts None e h = record {
  used = token.Numeral amount number ∷ token.Unit name ∷ [];
  split = refl;
  tree = a_measure amount number (alone name);
  held = λ _. e;
}
measured-sound amount number name ts (Some mid) e h =
    bind-all (BeginsWithExponent mid) (ReadsBase (token.Numeral amount number ∷ token.Unit name ∷ ts)) (exponent_in_front mid)
    (λ n rest. Some (literal amount (Some (record { unit = name; exponent = n })), rest)) (exponent_in_front-rest mid)
    (λ n rest d. record {
      used = token.Numeral amount number ∷ token.Unit name ∷ token.Sign sign.Caret ∷ d.used;
      split = ap (λ (z : List Token). token.Numeral amount number ∷ token.Unit name ∷ z) (behind (token.Sign sign.Caret) ts mid d.used rest h d.split);
      tree = a_measure amount number (raised name d.exponent);
      held = λ i. absurd i;
    })

lone_numeral : (amount : ℤ) (number : Option ℕ) (ts : List Token) → ReadsBase (token.Numeral amount number ∷ ts) (literal amount None) ts
lone_numeral amount number ts = record { used = token.Numeral amount number ∷ []; split = refl; tree = a_numeral amount number; held = λ i. absurd i }

numeral_behind-sound : (amount : ℤ) (number : Option ℕ) (ts : List Token) → AllParsed (ReadsBase (token.Numeral amount number ∷ ts)) (numeral_behind amount ts)
numeral_behind-sound amount number [] = lone_numeral amount number []
numeral_behind-sound amount number (token.Unit name ∷ ts) = measured-sound amount number name ts (behind_sign sign.Caret ts) refl (behind_sign-rest sign.Caret ts)
numeral_behind-sound amount number (token.Name name ∷ ts) = lone_numeral amount number (token.Name name ∷ ts)
numeral_behind-sound amount number (token.Sign x ∷ ts) = lone_numeral amount number (token.Sign x ∷ ts)
numeral_behind-sound amount number (token.Numeral a n ∷ ts) = lone_numeral amount number (token.Numeral a n ∷ ts)
numeral_behind-sound amount number (token.Flag v ∷ ts) = lone_numeral amount number (token.Flag v ∷ ts)
numeral_behind-sound amount number (token.Function name ∷ ts) = lone_numeral amount number (token.Function name ∷ ts)
numeral_behind-sound amount number (token.Marked place ∷ ts) = lone_numeral amount number (token.Marked place ∷ ts)
numeral_behind-sound amount number (token.Text t ∷ ts) = lone_numeral amount number (token.Text t ∷ ts)

-- paths

path_parts-not_held : (o : w.Owner) (x : SlotName) → HoldsExponent (owner_tokens o ++ slot_tokens x) → ⊥
path_parts-not_held owner.Here (slot.Plain name) h = h
path_parts-not_held owner.Here (slot.Component name part) h = h
path_parts-not_held owner.Here (slot.Marked place) h = h
path_parts-not_held (owner.ByName name) x h = h
path_parts-not_held (owner.ByLabel label) x h = h

path-not_held : {ts : List Token} {p : Path} → IsPathOf ts p → HoldsExponent ts → ⊥
path-not_held (plain p can) h = path_parts-not_held p.owner p.slot h
path-not_held (behind_point slot) h = h

as_tree-sound : (ts : List Token) (x : Parsed Path) → AllParsed (BeginsWithPath ts) x → AllParsed (ReadsBase ts) (as_tree x)
as_tree-sound ts x h =
    bind-all (BeginsWithPath ts) (ReadsBase ts) x (λ p rest. Some (path p, rest)) h
    (λ p rest d. record { used = d.used; split = d.split; tree = a_path d.path; held = λ i. absurd (path-not_held d.path i) })

own_slot-sound : (ts : List Token) → AllParsed (ReadsBase (dot ∷ ts)) (own_slot ts)
own_slot-sound ts =
    bind-all (BeginsWith slot_tokens ts) (ReadsBase (dot ∷ ts)) (slot_in_front ts)
    (λ x rest. Some (path (record { owner = owner.Here; slot = x }), rest)) (slot_in_front-rest ts)
    (λ x rest d. record {
      used = dot ∷ slot_tokens x;
      split = ap (λ (z : List Token). dot ∷ z) d;
      tree = a_path (behind_point x);
      held = λ i. absurd i;
    })

slot_of_label-sound : (label : List ℕ) (ts mid : List Token) → ts ≡ dot ∷ mid → IsTrue (is_label label)
    → AllParsed (ReadsBase (token.Text label ∷ ts)) (slot_of_label label mid)
slot_of_label-sound label ts mid e h =
    bind-all (BeginsWith slot_tokens mid) (ReadsBase (token.Text label ∷ ts)) (slot_in_front mid)
    (λ x rest. Some (path (record { owner = owner.ByLabel label; slot = x }), rest)) (slot_in_front-rest mid)
    (λ x rest d. record {
      used = token.Text label ∷ dot ∷ slot_tokens x;
      split = ap (λ (z : List Token). token.Text label ∷ z) (e ∙ ap (λ (z : List Token). dot ∷ z) d);
      tree = a_path (plain (record { owner = owner.ByLabel label; slot = x }) h);
      held = λ i. absurd i;
    })

text_or_label-sound : (t : List ℕ) (ts : List Token) (x : Option (List Token)) → AllRests (λ rest. ts ≡ dot ∷ rest) x
    → AllParsed (ReadsBase (token.Text t ∷ ts)) (text_or_label t x ts)
text_or_label-sound t ts None h = record { used = token.Text t ∷ []; split = refl; tree = a_text t; held = λ i. absurd i }
text_or_label-sound t ts (Some mid) h =
    on_cond (AllParsed (ReadsBase (token.Text t ∷ ts))) (is_label t) (slot_of_label t mid) None
    (λ e. slot_of_label-sound t ts mid h e) (λ _. tt)

-- brackets

-- something of a kind in front
pub record Inside {A : Type 0} (Kind : List Token → A → Type 0) (ts : List Token) (x : A) (rest : List Token) : Type 0 where
  pub used : List Token
  pub split : ts ≡ used ++ rest
  pub kind : Kind used x

closed-sound : (pre whole used ts rest : List Token) (t : Tree) → whole ≡ pre ++ ts → ts ≡ used ++ rest → ((more : List Token) → HoldsExponent (pre ++ more) → ⊥)
    → HasTree primary (pre ++ (used ++ token.Sign sign.Close ∷ [])) t → (x : Option (List Token)) → AllRests (λ after. rest ≡ token.Sign sign.Close ∷ after) x
    → AllParsed (ReadsBase whole) (closed t x)
closed-sound pre whole used ts rest t e d not_held has None h = tt
closed-sound pre whole used ts rest t e d not_held has (Some after) h = record {
  used = pre ++ (used ++ token.Sign sign.Close ∷ []);
  split = joined whole pre ts (used ++ token.Sign sign.Close ∷ []) after e (joined ts used rest (token.Sign sign.Close ∷ []) after d h);
  tree = has;
  held = λ i. absurd (not_held (used ++ token.Sign sign.Close ∷ []) i);
}

with_bracket-sound : (pre whole ts : List Token) → whole ≡ pre ++ ts → ((more : List Token) → HoldsExponent (pre ++ more) → ⊥) → (x : Parsed Tree)
    → AllParsed (Inside (λ used t. HasTree primary (pre ++ (used ++ token.Sign sign.Close ∷ [])) t) ts) x
    → AllParsed (ReadsBase whole) (with_bracket x)
with_bracket-sound pre whole ts e not_held x h =
    bind-all (Inside (λ used t. HasTree primary (pre ++ (used ++ token.Sign sign.Close ∷ [])) t) ts) (ReadsBase whole) x
    (λ t rest. closed t (behind_sign sign.Close rest)) h
    (λ t rest d. closed-sound pre whole d.used ts rest t e d.split not_held d.kind (behind_sign sign.Close rest) (behind_sign-rest sign.Close rest))

-- separators

separates-is : (x : s.Sign) → separates x ≡ true → IsSeparator x
separates-is sign.Semicolon h = semicolon
separates-is sign.Comma h = comma
separates-is _ h = absurd (cc)

-- the tokens begin with a separator
pub record Separated (ts rest : List Token) : Type 0 where
  pub sign : s.Sign
  pub separator : IsSeparator sign
  pub split : ts ≡ token.Sign sign ∷ rest

behind_separating-rest : (ts : List Token) (x : Option (s.Sign × List Token)) → AllParsed (λ y rest. ts ≡ token.Sign y ∷ rest) x
    → AllRests (Separated ts) (behind_separating x)
behind_separating-rest ts None h = tt
behind_separating-rest ts (Some x) h =
    on_cond (AllRests (Separated ts)) (separates x.0) (Some x.1) None
    (λ e. record { sign = x.0; separator = separates-is x.0 e; split = h }) (λ _. tt)

pub behind_separator-rest : (ts : List Token) → AllRests (Separated ts) (behind_separator ts)
behind_separator-rest ts = behind_separating-rest ts (sign_in_front ts) (sign_in_front-rest ts)

-- calls

named_by : (name known : List ℕ) → bytes_eq name known ≡ true → name ≡ known
named_by name known = (bytes_eq-Decides name known).0

function_named-is : (name : List ℕ) → AllSome (λ op. name ≡ function_name op) (function_named name)
function_named-is name =
    let P : Option f.FunctionOp → Type 0 = AllSome (λ op. name ≡ function_name op) in
    on_cond P (bytes_eq name (codes "abs")) _ _ (named_by name (codes "abs"))
    (λ _. on_cond P (bytes_eq name (codes "ceil")) _ _ (named_by name (codes "ceil"))
    (λ _. on_cond P (bytes_eq name (codes "floor")) _ _ (named_by name (codes "floor"))
    (λ _. on_cond P (bytes_eq name (codes "round")) _ _ (named_by name (codes "round"))
    (λ _. on_cond P (bytes_eq name (codes "trunc")) _ _ (named_by name (codes "trunc")) (λ _. tt)))))

aggregate_named-is : (name : List ℕ) → AllSome (λ op. name ≡ aggregate_name op) (aggregate_named name)
aggregate_named-is name =
    let P : Option g.AggregateOp → Type 0 = AllSome (λ op. name ≡ aggregate_name op) in
    on_cond P (bytes_eq name (codes "sum")) _ _ (named_by name (codes "sum"))
    (λ _. on_cond P (bytes_eq name (codes "average")) _ _ (named_by name (codes "average"))
    (λ _. on_cond P (bytes_eq name (codes "count")) _ _ (named_by name (codes "count"))
    (λ _. on_cond P (bytes_eq name (codes "min")) _ _ (named_by name (codes "min"))
    (λ _. on_cond P (bytes_eq name (codes "max")) _ _ (named_by name (codes "max")) (λ _. tt)))))

-- a function and its bracket
abbrev pub called_by : List ℕ → List Token
called_by name = token.Function name ∷ token.Sign sign.Open ∷ []

second_argument-sound : (r : Readers) → Sound r → (whole ts rest used : List Token) → whole ≡ called_by modulo_name ++ ts → ts ≡ used ++ rest
    → (a : Tree) → HasTree expression used a → (x : Option (List Token)) → AllRests (Separated rest) x
    → AllParsed (ReadsBase whole) (second_argument r a x)
second_argument-sound r so whole ts rest used e d a ha None h = tt
second_argument-sound r so whole ts rest used e d a ha (Some mid) h =
    let S : List Token = token.Sign h.sign ∷ [] in
    let pre : List Token = called_by modulo_name ++ (used ++ S) in
    with_bracket-sound pre whole mid
    (joined whole (called_by modulo_name) ts (used ++ S) mid e (joined ts used rest S mid d h.split))
    (λ more i. i)
    (r.of_level expression mid >>= λ b rest. Some (modulo a b, rest))
    (bind-all (ReadsTree expression mid) (Inside (λ zs t. HasTree primary (pre ++ (zs ++ token.Sign sign.Close ∷ [])) t) mid) (r.of_level expression mid)
    (λ b rest. Some (modulo a b, rest)) (so.of_level expression mid)
    (λ b rest rb. record {
      used = rb.used;
      split = rb.split;
      kind = subst (λ (z : List Token). HasTree primary (called_by modulo_name ++ z) (modulo a b))
          (sym (append_assoc used S (rb.used ++ token.Sign sign.Close ∷ []))) (a_modulo h.sign h.separator ha rb.tree);
    }))

called-sound : (r : Readers) → Sound r → (name : List ℕ) (whole ts : List Token) → whole ≡ called_by name ++ ts
    → (x : Option f.FunctionOp) → AllSome (λ op. name ≡ function_name op) x → (v : Bool) → (v ≡ true → name ≡ modulo_name)
    → (y : Option g.AggregateOp) → AllSome (λ op. name ≡ aggregate_name op) y
    → AllParsed (ReadsBase whole) (called r x v y ts)
called-sound r so name whole ts e (Some op) hx v hv y hy =
    with_bracket-sound (called_by (function_name op)) whole ts (e ∙ ap (λ (z : List ℕ). called_by z ++ ts) hx) (λ more i. i)
    (r.of_level expression ts >>= λ a rest. Some (function op a, rest))
    (bind-all (ReadsTree expression ts) (Inside (λ zs t. HasTree primary (called_by (function_name op) ++ (zs ++ token.Sign sign.Close ∷ [])) t) ts)
    (r.of_level expression ts) (λ a rest. Some (function op a, rest)) (so.of_level expression ts)
    (λ a rest ra. record { used = ra.used; split = ra.split; kind = a_function op ra.tree }))
called-sound r so name whole ts e None hx true hv y hy =
    bind-all (ReadsTree expression ts) (ReadsBase whole) (r.of_level expression ts) (λ a rest. second_argument r a (behind_separator rest))
    (so.of_level expression ts)
    (λ a rest ra. second_argument-sound r so whole ts rest ra.used (e ∙ ap (λ (z : List ℕ). called_by z ++ ts) (hv refl)) ra.split a ra.tree
    (behind_separator rest) (behind_separator-rest rest))
called-sound r so name whole ts e None hx false hv (Some op) hy =
    with_bracket-sound (called_by (aggregate_name op)) whole ts (e ∙ ap (λ (z : List ℕ). called_by z ++ ts) hy) (λ more i. i)
    (r.arguments ts >>= λ all rest. Some (aggregate op all, rest))
    (bind-all (ReadsArguments ts) (Inside (λ zs t. HasTree primary (called_by (aggregate_name op) ++ (zs ++ token.Sign sign.Close ∷ [])) t) ts)
    (r.arguments ts) (λ all rest. Some (aggregate op all, rest)) (so.arguments ts)
    (λ all rest ra. record { used = ra.used; split = ra.split; kind = an_aggregate op ra.arguments }))
called-sound r so name whole ts e None hx false hv None hy = tt

call-sound : (r : Readers) → Sound r → (name : List ℕ) (ts : List Token) (x : Option (List Token)) → AllRests (λ rest. ts ≡ token.Sign sign.Open ∷ rest) x
    → AllParsed (ReadsBase (token.Function name ∷ ts)) (call r name x)
call-sound r so name ts None h = tt
call-sound r so name ts (Some mid) h =
    called-sound r so name (token.Function name ∷ ts) mid (ap (λ (z : List Token). token.Function name ∷ z) h)
    (function_named name) (function_named-is name) (bytes_eq name modulo_name) (named_by name modulo_name) (aggregate_named name) (aggregate_named-is name)

-- primaries

signed_primary-sound : (r : Readers) → Sound r → (x : s.Sign) (ts : List Token) → AllParsed (ReadsBase (token.Sign x ∷ ts)) (signed_primary r x ts)
signed_primary-sound r so sign.Open ts =
    with_bracket-sound (token.Sign sign.Open ∷ []) (token.Sign sign.Open ∷ ts) ts refl (λ more i. i) (r.of_level expression ts)
    (weaker (ReadsTree expression ts) (Inside (λ zs t. HasTree primary (token.Sign sign.Open ∷ (zs ++ token.Sign sign.Close ∷ [])) t) ts) (r.of_level expression ts)
    (λ t rest d. record { used = d.used; split = d.split; kind = in_brackets d.tree }) (so.of_level expression ts))
signed_primary-sound r so sign.Dot ts = own_slot-sound ts
signed_primary-sound r so _ ts = tt

pub primary_step-sound : (r : Readers) → Sound r → (ts : List Token) → AllParsed (ReadsBase ts) (primary_step r ts)
primary_step-sound r so [] = tt
primary_step-sound r so (token.Numeral amount number ∷ ts) = numeral_behind-sound amount number ts
primary_step-sound r so (token.Unit name ∷ ts) = record { used = token.Unit name ∷ []; split = refl; tree = a_unit name; held = λ i. absurd i }
primary_step-sound r so (token.Flag v ∷ ts) = record { used = token.Flag v ∷ []; split = refl; tree = a_flag v; held = λ i. absurd i }
primary_step-sound r so (token.Name name ∷ ts) =
    as_tree-sound (token.Name name ∷ ts) (named_path name (behind_sign sign.Dot ts) ts) (named_path-rest name ts (behind_sign sign.Dot ts) (behind_sign-rest sign.Dot ts))
primary_step-sound r so (token.Function name ∷ ts) = call-sound r so name ts (behind_sign sign.Open ts) (behind_sign-rest sign.Open ts)
primary_step-sound r so (token.Marked place ∷ ts) = record {
  used = token.Marked place ∷ [];
  split = refl;
  tree = a_path (plain (record { owner = owner.Here; slot = slot.Marked place }) tt);
  held = λ i. absurd i;
}
primary_step-sound r so (token.Text t ∷ ts) = text_or_label-sound t ts (behind_sign sign.Dot ts) (behind_sign-rest sign.Dot ts)
primary_step-sound r so (token.Sign x ∷ ts) = signed_primary-sound r so x ts
