-- The steps of a search that spreads.
use Rattle.std.proofs.Common.{◌≡◌, ◌⊎◌, inl, inr, ℕ, ◌+◌, ◌<◌, Bool, true, false, not, cond, List, [], ◌∷◌, ◌++◌, length, set, replicate, count_by, Vec, refl, sym, ◌∙◌, ap, subst, arith}
use Rattle.std.proofs.lemmas.Bool.{cases_lt, cases_eq, false_from_ne_true}
use Rattle.std.proofs.lemmas.List.{get_or-set_same, get_or-set_other, get_or_past, get_or-replicate, length-set, length-replicate, length_push}
use Rattle.std.proofs.lemmas.List.Sums.{sum_by-set}
use Rattle.fc_base.specs.Graph.{IsIn, Reaches, direct, onward}
use Rattle.dependency_order.specs.Nodes.{inputs_of, AreNodes}
use Rattle.dependency_order.specs.Spreads.{is_reached, TakesIn, IsSpreading}
use Rattle.dependency_order.proofs.ListLemmas.{IsIn-front, IsIn-last, IsIn-push}

-- a node that is reached now
pub takes_new :
    (reached : List Bool) (pending : List ℕ) (x : ℕ) → x < length reached → is_reached reached x ≡ false
    → TakesIn (x ∷ []) reached pending (set reached x true) (pending ++ x ∷ [])
takes_new reached pending x lt new =
    let here : is_reached (set reached x true) x ≡ true = get_or-set_same reached x true false lt in
    let other : (n : ℕ) → (n ≡ x → ⊥) → is_reached (set reached x true) n ≡ is_reached reached n =
    λ n ne. get_or-set_other reached x n true false ne in
    let cost : Bool → ℕ = λ b. cond (not b) 1 0 in
    let was : cost (is_reached reached x) ≡ 1 = ap cost new in
    let fewer : count_by not (set reached x true) + cost (is_reached reached x) ≡ count_by not reached + 0 = sum_by-set cost reached x true false lt in
    let longer : length (pending ++ x ∷ []) ≡ length pending + 1 = length_push pending x in
    record {
      sized = length-set reached x true;
      kept = λ n e. elim (cases_eq n x) [
        | inl same ↦ ap (λ (k : ℕ). is_reached (set reached x true) k) same ∙ here
        | inr ne ↦ other n ne ∙ e
      ];
      taken = λ n i. elim i [ inl e ↦ ap (λ (k : ℕ). is_reached (set reached x true) k) e ∙ here | inr j ↦ absurd j ];
      only_nodes = λ n e. elim (cases_eq n x) [
        | inl same ↦ inr (inl same, subst (λ (k : ℕ). IsIn k (pending ++ x ∷ [])) (sym same) (IsIn-last pending x))
        | inr ne ↦ inl (sym (other n ne) ∙ e)
      ];
      waits = λ n i. IsIn-front pending n x i;
      only_new = λ n i. elim (IsIn-push pending n x i) [ inl j ↦ inl j | inr e ↦ inr (inl e) ];
      left = omega arith;
    }

-- the nodes of a list, and one more
pub takes_more :
    (nodes : List ℕ) (x : ℕ) (reached between after : List Bool) (pending waiting left : List ℕ)
    → TakesIn nodes reached pending between waiting → TakesIn (x ∷ []) between waiting after left → TakesIn (nodes ++ x ∷ []) reached pending after left
takes_more nodes x reached between after pending waiting left first last = record {
  sized = last.sized ∙ first.sized;
  kept = λ n e. last.kept n (first.kept n e);
  taken = λ n i. elim (IsIn-push nodes n x i) [ inl j ↦ last.kept n (first.taken n j) | inr e ↦ last.taken n (inl e) ];
  only_nodes = λ n e. elim (last.only_nodes n e) [
    | inl between ↦ elim (first.only_nodes n between) [
      | inl before ↦ inl before
      | inr new ↦ inr (IsIn-front nodes n x new.0, last.waits n new.1)
    ]
    | inr new ↦ inr (elim new.0 [ inl same ↦ subst (λ (k : ℕ). IsIn k (nodes ++ x ∷ [])) (sym same) (IsIn-last nodes x) | inr j ↦ absurd j ], new.1)
  ];
  waits = λ n i. last.waits n (first.waits n i);
  only_new = λ n i. elim (last.only_new n i) [
    | inl j ↦ elim (first.only_new n j) [ inl k ↦ inl k | inr k ↦ inr (IsIn-front nodes n x k) ]
    | inr j ↦ inr (elim j [ inl same ↦ subst (λ (k : ℕ). IsIn k (nodes ++ x ∷ [])) (sym same) (IsIn-last nodes x) | inr k ↦ absurd k ])
  ];
  left = last.left ∙ first.left;
}

module _ {A : Type 0} (inputs : List (Vec ℕ A)) (start : ℕ) where
  pub spread_starts : start < length inputs → IsSpreading inputs start (replicate (length inputs) false) (start ∷ [])
  spread_starts lt =
      let none : (n : ℕ) → is_reached (replicate (length inputs) false) n ≡ false = λ n.
      elim (cases_lt n (length inputs)) [
        | inl lt ↦ get_or-replicate (length inputs) n false false lt
        | inr ge ↦ get_or_past (replicate (length inputs) false) n false (omega (arith, length-replicate (length inputs) false))
      ] in
      record {
        sized = length-replicate (length inputs) false;
        nodes = λ n i. elim i [ inl e ↦ subst (λ (k : ℕ). k < length inputs) (sym e) lt | inr j ↦ absurd j ];
        from_start = λ n d i j. elim i [
          | inl e ↦ direct (subst (λ (k : ℕ). IsIn d (inputs_of inputs k)) e j)
          | inr k ↦ absurd k
        ];
        not_back = none start;
        spread = λ n h. elim h [ inl e ↦ inl (inl e) | inr e ↦ absurd (let f : false ≡ true = sym (none n) ∙ e in cc) ];
      }

  -- the inputs of one node are taken in
  pub spreads :
      (reached : List Bool) (pending : List ℕ) (from : ℕ) (new_reached : List Bool) (new_pending : List ℕ)
      → AreNodes inputs → IsSpreading inputs start reached (pending ++ from ∷ [])
      → TakesIn (inputs_of inputs from) reached pending new_reached new_pending → (IsIn start (inputs_of inputs from) → ⊥)
      → IsSpreading inputs start new_reached new_pending
  spreads reached pending from new_reached new_pending are_nodes w t away =
      let last = IsIn-last pending from in
      let passed : (n : ℕ) → IsIn n (pending ++ from ∷ []) ⊎ ((d : ℕ) → IsIn d (inputs_of inputs n) → is_reached reached d ≡ true)
      → IsIn n new_pending ⊎ ((d : ℕ) → IsIn d (inputs_of inputs n) → is_reached new_reached d ≡ true) =
      λ n h. elim h [
        | inl i ↦ elim (IsIn-push pending n from i) [
          | inl j ↦ inl (t.waits n j)
          | inr e ↦ inr (λ d j. t.taken d (subst (λ (k : ℕ). IsIn d (inputs_of inputs k)) e j))
        ]
        | inr all ↦ inr (λ d j. t.kept d (all d j))
      ] in
      record {
        sized = t.sized ∙ w.sized;
        nodes = λ n i. elim (t.only_new n i) [ inl j ↦ w.nodes n (IsIn-front pending n from j) | inr j ↦ are_nodes.inside from n j ];
        from_start = λ n d i j. elim (t.only_new n i) [
          | inl k ↦ w.from_start n d (IsIn-front pending n from k) j
          | inr k ↦ onward (w.from_start from n last k) j
        ];
        not_back = false_from_ne_true (is_reached new_reached start) (λ e. elim (t.only_nodes start e) [
          | inl before ↦ let f : false ≡ true = sym w.not_back ∙ before in cc
          | inr new ↦ away new.0
        ]);
        spread = λ n h. elim h [
          | inl e ↦ passed n (w.spread n (inl e))
          | inr e ↦ elim (t.only_nodes n e) [ inl before ↦ passed n (w.spread n (inr before)) | inr new ↦ inl new.1 ]
        ];
      }

  -- where nothing is pending all that the start reaches is reached
  all_reached :
      (reached : List Bool) → IsSpreading inputs start reached [] → {s t : ℕ} → Reaches (inputs_of inputs) s t → s ≡ start → is_reached reached t ≡ true
  all_reached reached w {s} {t} (direct i) e = elim (w.spread s (inl e)) [ inl j ↦ absurd j | inr all ↦ all t i ]
  all_reached reached w {s} {t} (onward {t = u} r i) e = elim (w.spread u (inr (all_reached reached w r e))) [ inl j ↦ absurd j | inr all ↦ all t i ]

  pub no_way_back : (reached : List Bool) → IsSpreading inputs start reached [] → Reaches (inputs_of inputs) start start → ⊥
  no_way_back reached w r = let f : false ≡ true = sym w.not_back ∙ all_reached reached w r refl in cc
