-- What a map of texts holds, as a finite map of their bytes.
use Rattle.std.proofs.Common.{◌≡◌, ℕ, Bool, true, false, cond, List, [], ◌∷◌, map, Some, None, Vec, String, string_bytes, string_cmp, refl, sym, ap, ◌∙◌}
use Rattle.std.specs.declared.option.Option.{Option}
use Rattle.std.specs.declared.alloc.Global.{Global}
use Rattle.std.specs.Option.{option_map}
use Rattle.std.specs.Ordering.{nat_cmp, is_eq, eq_by_cmp}
use Rattle.std.specs.Cmp.Lexicographic.{slice_cmp, nat_list_cmp_total}
use Rattle.std.specs.Map.{lookup}
use Rattle.std.specs.Str.{bytes_eq}
use Rattle.std.specs.BTreeMap.{BTreeMap, is_at, get_by_text, UpdatesBy}
use Rattle.std.specs.FinMap.{find, from_entries, get, insert, empty, get-insert, get-from_entries, same_map, slice_cmp-IsAntisymmetric, nat_cmp-IsAntisymmetric}
use Rattle.std.proofs.lemmas.Cmp.{eq_by_cmp_equiv}
use Rattle.std.proofs.lemmas.Map.Text.{text_cmp, is_eq-slice_cmp, btree_map_updates_text}
use Rattle.fc_base.specs.MemoryStores.{named, held_in}

-- the bytes that a vector has
abbrev items_of : Vec ℕ Global → List ℕ
items_of v = v.items

-- looking up the bytes of a name among the pairs of bytes, or the name among the texts
find_named : (es : List (String Global × Vec ℕ Global)) (q : List ℕ) → find (slice_cmp nat_cmp) q (map named es) ≡ option_map items_of (lookup (is_at (text_cmp q)) es)
find_named [] q = refl
find_named (e ∷ es) q =
    elim (is_eq (slice_cmp nat_cmp q (string_bytes e.0))) as (λ b. cond b (Some e.1.items) (find (slice_cmp nat_cmp) q (map named es)) ≡ option_map items_of (cond b (Some e.1) (lookup (is_at (text_cmp q)) es))) [
      | true ↦ refl
      | false ↦ find_named es q
    ]

-- what is held under a name
pub get_held : (m : BTreeMap (String Global) (Vec ℕ Global)) (q : List ℕ) → get (held_in m) q ≡ option_map items_of (get_by_text m q)
unfolding held_in
get_held m q = get-from_entries nat_list_cmp_total _ q ∙ find_named m.entries q

-- a name that is not in the map is not held
pub held_none : (m : BTreeMap (String Global) (Vec ℕ Global)) (q : List ℕ) → None ≡ get_by_text m q → get (held_in m) q ≡ None
held_none m q e = get_held m q ∙ ap (option_map items_of) (sym e)

-- under a name that is in the map its bytes are held
pub held_some : (m : BTreeMap (String Global) (Vec ℕ Global)) (q : List ℕ) (v : Vec ℕ Global) → Some v ≡ get_by_text m q → get (held_in m) q ≡ Some v.items
held_some m q v e = get_held m q ∙ ap (option_map items_of) (sym e)

-- nothing is held where there are no entries
pub held_in-empty : (m : BTreeMap (String Global) (Vec ℕ Global)) → m.entries ≡ [] → held_in m ≡ empty
unfolding held_in
held_in-empty m e = ap (λ es. from_entries (map named es)) e

-- maps with equal entries hold the same
pub held_in-same : (m n : BTreeMap (String Global) (Vec ℕ Global)) → n.entries ≡ m.entries → held_in n ≡ held_in m
unfolding held_in
held_in-same m n e = ap (λ es. from_entries (map named es)) e

-- a choice by the other order of the two texts
turned : (q name : List ℕ) (x y : Option (List ℕ)) → cond (bytes_eq name q) x y ≡ cond (eq_by_cmp (slice_cmp nat_cmp) q name) x y
turned q name x y = ap (λ b. cond b x y) (sym (is_eq-slice_cmp name q) ∙ (eq_by_cmp_equiv nat_list_cmp_total).symm name q)

-- the value in a choice of two
mapped : (b : Bool) (v : Vec ℕ Global) (o : Option (Vec ℕ Global)) → option_map items_of (cond b (Some v) o) ≡ cond b (Some v.items) (option_map items_of o)
mapped true v o = refl
mapped false v o = refl

-- what is held after a name was set
pub held_in-updates : (m n : BTreeMap (String Global) (Vec ℕ Global)) (name : List ℕ) (v : Vec ℕ Global) → UpdatesBy string_cmp (text_cmp name) m n (Some v) → held_in n ≡ insert (held_in m) name v.items
held_in-updates m n name v u = same_map nat_list_cmp_total (slice_cmp-IsAntisymmetric nat_cmp-IsAntisymmetric) _ _ (λ q.
    get_held n q
    ∙ ap (option_map items_of) (btree_map_updates_text name m n (Some v) u q)
    ∙ mapped (bytes_eq name q) v (get_by_text m q)
    ∙ turned q name _ _
    ∙ ap (cond (eq_by_cmp (slice_cmp nat_cmp) q name) (Some v.items)) (sym (get_held m q))
    ∙ sym (get-insert nat_list_cmp_total (held_in m) name v.items q))
