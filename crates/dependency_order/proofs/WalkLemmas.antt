-- The steps of a walk.
use Rattle.std.proofs.Common.{◌≡◌, inl, inr, ℕ, zero, suc, ◌+◌, ◌<◌, List, [], ◌∷◌, ◌++◌, length, take, set, None, Some, slice_get, Vec, refl, sym, ◌∙◌, ap, subst, arith}
use Rattle.std.proofs.lemmas.Bool.{cases_lt, cases_eq}
use Rattle.std.proofs.lemmas.List.{get_or-set_same, get_or-set_other, get_or_past, length-set}
use Rattle.std.proofs.lemmas.List.Sums.{sum_by_push}
use Rattle.fc_base.specs.Graph.{IsIn, Reaches, direct, onward}
use Rattle.dependency_order.specs.Nodes.{inputs_of, AreNodes, HasCycle, OrdersAll}
use Rattle.dependency_order.specs.Walks.{mark_of, LeadsOn, IsUnderWay, NoneIsRenewed, steps_of, new_steps, frame_steps, GoesOn}
use Rattle.dependency_order.specs.declared.walk.Mark.{Mark}
use Rattle.dependency_order.specs.declared.walk.Mark.TheVariants.{New, Open, Done}
use Rattle.dependency_order.specs.declared.walk.Frame.{Frame}
use Rattle.dependency_order.proofs.ListLemmas.{IsIn-front, IsIn-last, IsIn-push, IsIn-from_get, take_get, take_none, get_within, IsOrdered-push}

LeadsOn-push :
    (g : ℕ → List ℕ) (path : List Frame) (f : Frame) → LeadsOn g path
    → ((h : Frame) → IsIn h path → Reaches g h.node f.node × (f.node ≡ h.node → ⊥)) → LeadsOn g (path ++ f ∷ [])
LeadsOn-push g [] f leads all = ((λ h i. absurd i), tt)
LeadsOn-push g (k ∷ path) f leads all = (
  (λ h i. elim (IsIn-push path h f i) [
    | inl j ↦ leads.0 h j
    | inr e ↦ subst (λ (q : Frame). Reaches g k.node q.node × (q.node ≡ k.node → ⊥)) (sym e) (all k (inl refl))
  ]),
  LeadsOn-push g path f leads.1 (λ h i. all h (inr i)),
)

LeadsOn-front : (g : ℕ → List ℕ) (path : List Frame) (f : Frame) → LeadsOn g (path ++ f ∷ []) → LeadsOn g path
LeadsOn-front g [] f leads = tt
LeadsOn-front g (k ∷ path) f leads = ((λ h i. leads.0 h (IsIn-front path h f i)), LeadsOn-front g path f leads.1)

LeadsOn-last :
    (g : ℕ → List ℕ) (path : List Frame) (f : Frame) → LeadsOn g (path ++ f ∷ [])
    → (h : Frame) → IsIn h path → Reaches g h.node f.node × (f.node ≡ h.node → ⊥)
LeadsOn-last g [] f leads h i = absurd i
LeadsOn-last g (k ∷ path) f leads h (inl e) =
    subst (λ (q : Frame). Reaches g q.node f.node × (f.node ≡ q.node → ⊥)) (sym e) (leads.0 f (IsIn-last path f))
LeadsOn-last g (k ∷ path) f leads h (inr i) = LeadsOn-last g path f leads.1 h i

-- all of a path reach what its last node reads
leads_to :
    (g : ℕ → List ℕ) (path : List Frame) (f : Frame) → LeadsOn g (path ++ f ∷ []) → (x : ℕ) → IsIn x (g f.node)
    → (h : Frame) → IsIn h (path ++ f ∷ []) → Reaches g h.node x
leads_to g path f leads x here h i =
    elim (IsIn-push path h f i) [
      | inl j ↦ onward (LeadsOn-last g path f leads h j).0 here
      | inr e ↦ subst (λ (q : Frame). Reaches g q.node x) (sym e) (direct here)
    ]

-- only a node has a mark that is not new
marked_within : (marks : List Mark) (n : ℕ) → (mark_of marks n ≡ New → ⊥) → n < length marks
marked_within marks n old =
    elim (cases_lt n (length marks)) [ inl lt ↦ lt | inr ge ↦ absurd (old (get_or_past marks n New ge)) ]

open_within : (marks : List Mark) (n : ℕ) → mark_of marks n ≡ Open → n < length marks
open_within marks n e = marked_within marks n (λ h. let f : New ≡ Open = sym h ∙ e in cc)

done_within : (marks : List Mark) (n : ℕ) → mark_of marks n ≡ Done → n < length marks
done_within marks n e = marked_within marks n (λ h. let f : New ≡ Done = sym h ∙ e in cc)

other_mark : (marks : List Mark) (i n : ℕ) (m : Mark) → (n ≡ i → ⊥) → mark_of (set marks i m) n ≡ mark_of marks n
other_mark marks i n m ne = get_or-set_other marks i n m New ne

same_mark : (marks : List Mark) (i : ℕ) (m : Mark) → i < length marks → mark_of (set marks i m) i ≡ m
same_mark marks i m h = get_or-set_same marks i m New h

-- two nodes with different marks are two
apart : (marks : List Mark) (i n : ℕ) (p q : Mark) → mark_of marks i ≡ p → mark_of marks n ≡ q → (p ≡ q → ⊥) → n ≡ i → ⊥
apart marks i n p q e f ne same = ne (sym e ∙ ap (λ (k : ℕ). mark_of marks k) (sym same) ∙ f)

not_renewed : (marks : List Mark) (i : ℕ) (m : Mark) → i < length marks → (m ≡ New → ⊥) → NoneIsRenewed marks (set marks i m)
not_renewed marks i m lt old n e =
    elim (cases_eq n i) [
      | inl same ↦ absurd (old (sym (same_mark marks i m lt) ∙ ap (λ (k : ℕ). mark_of (set marks i m) k) (sym same) ∙ e))
      | inr ne ↦ sym (other_mark marks i n m ne) ∙ e
    ]

module _ {A : Type 0} (inputs : List (Vec ℕ A)) where
  -- a new node that all of the path reach is opened
  pub opens :
      (marks : List Mark) (path : List Frame) (order : List ℕ) → IsUnderWay inputs marks path order
      → (f : Frame) → f.done ≡ 0 → f.node < length marks → mark_of marks f.node ≡ New
      → ((h : Frame) → IsIn h path → Reaches (inputs_of inputs) h.node f.node)
      → IsUnderWay inputs (set marks f.node Open) (path ++ f ∷ []) order
  opens marks path order w f start lt new reach =
      let here : mark_of (set marks f.node Open) f.node ≡ Open = same_mark marks f.node Open lt in
      let away : (n : ℕ) (m : Mark) → mark_of marks n ≡ m → (New ≡ m → ⊥) → n ≡ f.node → ⊥ =
      λ n m e ne. apart marks f.node n New m new e ne in
      let kept : (n : ℕ) (m : Mark) → mark_of marks n ≡ m → (New ≡ m → ⊥) → mark_of (set marks f.node Open) n ≡ m =
      λ n m e ne. other_mark marks f.node n Open (away n m e ne) ∙ e in
      record {
        marked = length-set marks f.node Open ∙ w.marked;
        ordered = w.ordered;
        listed_are_done = λ n i. kept n Done (w.listed_are_done n i) (λ e. cc);
        done_are_listed = λ n e. elim (cases_eq n f.node) [
          | inl same ↦ absurd (let k : Open ≡ Done = sym here ∙ ap (λ (k : ℕ). mark_of (set marks f.node Open) k) (sym same) ∙ e in cc)
          | inr ne ↦ w.done_are_listed n (sym (other_mark marks f.node n Open ne) ∙ e)
        ];
        path_is_open = λ h i. elim (IsIn-push path h f i) [
          | inl j ↦ kept h.node Open (w.path_is_open h j) (λ e. cc)
          | inr e ↦ subst (λ (q : Frame). mark_of (set marks f.node Open) q.node ≡ Open) (sym e) here
        ];
        open_on_path = λ n e. elim (cases_eq n f.node) [
          | inl same ↦ (f, (IsIn-last path f, sym same))
          | inr ne ↦ let (h, (i, k)) = w.open_on_path n (sym (other_mark marks f.node n Open ne) ∙ e) in (h, (IsIn-front path h f i, k))
        ];
        leads_on = LeadsOn-push (inputs_of inputs) path f w.leads_on
            (λ h i. (reach h i, λ e. away h.node Open (w.path_is_open h i) (λ k. cc) (sym e)));
        ready = λ h i. elim (IsIn-push path h f i) [
          | inl j ↦ w.ready h j
          | inr e ↦ λ d j. absurd (subst (λ (k : ℕ). IsIn d (take k (inputs_of inputs h.node))) (ap (λ (q : Frame). q.done) e ∙ start) j)
        ];
      }

  module _ (marks : List Mark) (path : List Frame) (order : List ℕ) (f : Frame) (w : IsUnderWay inputs marks (path ++ f ∷ []) order) where
    f_open : mark_of marks f.node ≡ Open
    f_open = w.path_is_open f (IsIn-last path f)

    pub f_within : f.node < length marks
    f_within = open_within marks f.node f_open

    -- a node whose inputs are all done is closed
    pub closes : slice_get (inputs_of inputs f.node) f.done ≡ None → IsUnderWay inputs (set marks f.node Done) path (order ++ f.node ∷ [])
    closes none =
        let here : mark_of (set marks f.node Done) f.node ≡ Done = same_mark marks f.node Done f_within in
        let all : take f.done (inputs_of inputs f.node) ≡ inputs_of inputs f.node = take_none (inputs_of inputs f.node) f.done none in
        record {
          marked = length-set marks f.node Done ∙ w.marked;
          ordered = IsOrdered-push (inputs_of inputs) [] order f.node w.ordered
              (λ d i. inl (w.ready f (IsIn-last path f) d (subst (λ (q : List ℕ). IsIn d q) (sym all) i)))
              (λ i. let k : Open ≡ Done = sym f_open ∙ w.listed_are_done f.node i in cc) (λ i. i);
          listed_are_done = λ n i. elim (IsIn-push order n f.node i) [
            | inl j ↦ other_mark marks f.node n Done (apart marks f.node n Open Done f_open (w.listed_are_done n j) (λ k. cc)) ∙ w.listed_are_done n j
            | inr e ↦ subst (λ (k : ℕ). mark_of (set marks f.node Done) k ≡ Done) (sym e) here
          ];
          done_are_listed = λ n e. elim (cases_eq n f.node) [
            | inl same ↦ subst (λ (k : ℕ). IsIn k (order ++ f.node ∷ [])) (sym same) (IsIn-last order f.node)
            | inr ne ↦ IsIn-front order n f.node (w.done_are_listed n (sym (other_mark marks f.node n Done ne) ∙ e))
          ];
          path_is_open = λ h i.
              other_mark marks f.node h.node Done (λ e. (LeadsOn-last (inputs_of inputs) path f w.leads_on h i).1 (sym e))
              ∙ w.path_is_open h (IsIn-front path h f i);
          open_on_path = λ n e. elim (cases_eq n f.node) [
            | inl same ↦ absurd (let k : Done ≡ Open = sym here ∙ ap (λ (k : ℕ). mark_of (set marks f.node Done) k) (sym same) ∙ e in cc)
            | inr ne ↦ let (h, (i, k)) = w.open_on_path n (sym (other_mark marks f.node n Done ne) ∙ e) in
                elim (IsIn-push path h f i) [
                  | inl j ↦ (h, (j, k))
                  | inr same ↦ absurd (ne (sym k ∙ ap (λ (q : Frame). q.node) same))
                ]
          ];
          leads_on = LeadsOn-front (inputs_of inputs) path f w.leads_on;
          ready = λ h i d j. IsIn-front order d f.node (w.ready h (IsIn-front path h f i) d j);
        }

    module _ (x : ℕ) (found : slice_get (inputs_of inputs f.node) f.done ≡ Some x) where
      pub input_here : IsIn x (inputs_of inputs f.node)
      input_here = IsIn-from_get (inputs_of inputs f.node) f.done x found

      pub path_reaches : (h : Frame) → IsIn h (path ++ f ∷ []) → Reaches (inputs_of inputs) h.node x
      path_reaches = leads_to (inputs_of inputs) path f w.leads_on x input_here

      -- an open input closes a cycle
      pub cycle_at : mark_of marks x ≡ Open → Reaches (inputs_of inputs) x x
      cycle_at is_open =
          let (h, (i, e)) = w.open_on_path x is_open in
          subst (λ (k : ℕ). Reaches (inputs_of inputs) k x) e (path_reaches h i)

      -- a done input is passed
      pub passes : mark_of marks x ≡ Done → (k : Frame) → k.node ≡ f.node → k.done ≡ suc f.done → IsUnderWay inputs marks (path ++ k ∷ []) order
      passes done k same more = record {
        marked = w.marked;
        ordered = w.ordered;
        listed_are_done = w.listed_are_done;
        done_are_listed = w.done_are_listed;
        path_is_open = λ h i. elim (IsIn-push path h k i) [
          | inl j ↦ w.path_is_open h (IsIn-front path h f j)
          | inr e ↦ subst (λ (n : ℕ). mark_of marks n ≡ Open) (sym same ∙ ap (λ (q : Frame). q.node) (sym e)) f_open
        ];
        open_on_path = λ n is_open. let (h, (i, e)) = w.open_on_path n is_open in
            elim (IsIn-push path h f i) [
              | inl j ↦ (h, (IsIn-front path h k j, e))
              | inr is ↦ (k, (IsIn-last path k, same ∙ ap (λ (q : Frame). q.node) (sym is) ∙ e))
            ];
        leads_on = LeadsOn-push (inputs_of inputs) path k (LeadsOn-front (inputs_of inputs) path f w.leads_on)
            (λ h i. subst (λ (n : ℕ). Reaches (inputs_of inputs) h.node n × (n ≡ h.node → ⊥)) (sym same) (LeadsOn-last (inputs_of inputs) path f w.leads_on h i));
        ready = λ h i. elim (IsIn-push path h k i) [
          | inl j ↦ w.ready h (IsIn-front path h f j)
          | inr e ↦ λ d j.
              let fewer : IsIn d (take f.done (inputs_of inputs f.node) ++ x ∷ []) =
              subst (λ (q : List ℕ). IsIn d q)
              (ap (λ (q : Frame). take q.done (inputs_of inputs q.node)) e ∙ ap (λ (n : ℕ). take n (inputs_of inputs k.node)) more
              ∙ ap (λ (n : ℕ). take (suc f.done) (inputs_of inputs n)) same ∙ take_get (inputs_of inputs f.node) f.done x found) j in
              elim (IsIn-push (take f.done (inputs_of inputs f.node)) d x fewer) [
                | inl i ↦ w.ready f (IsIn-last path f) d i
                | inr is ↦ w.done_are_listed d (ap (λ (n : ℕ). mark_of marks n) is ∙ done)
              ]
        ];
      }

-- the steps after a mark is set
new_steps-set :
    (g : ℕ → List ℕ) (marks : List Mark) (i : ℕ) (m : Mark) → i < length marks
    → new_steps g (set marks i m) + steps_of (length (g i)) (mark_of marks i) ≡ new_steps g marks + steps_of (length (g i)) m
unfolding new_steps
new_steps-set g [] i m lt = absurd (omega arith)
new_steps-set g (p ∷ marks) zero m lt = omega arith
new_steps-set g (p ∷ marks) (suc i) m lt = omega (arith, new_steps-set (λ n. g (suc n)) marks i m (omega arith))

module _ {A : Type 0} (inputs : List (Vec ℕ A)) (marks : List Mark) (path : List Frame) (order : List ℕ) (f : Frame) (w : IsUnderWay inputs marks (path ++ f ∷ []) order) where
  -- the node is closed
  pub goes_back : slice_get (inputs_of inputs f.node) f.done ≡ None → GoesOn inputs marks (path ++ f ∷ []) (set marks f.node Done) path (order ++ f.node ∷ [])
  goes_back none =
      let lt : f.node < length marks = f_within inputs marks path order f w in
      let was : steps_of (length (inputs_of inputs f.node)) (mark_of marks f.node) ≡ 0 =
      ap (λ (m : Mark). steps_of (length (inputs_of inputs f.node)) m) (w.path_is_open f (IsIn-last path f)) in
      let s = new_steps-set (inputs_of inputs) marks f.node Done lt in
      let p = sum_by_push (frame_steps (inputs_of inputs)) path f in
      record {
        under_way = closes inputs marks path order f w none;
        started = not_renewed marks f.node Done lt (λ e. cc);
        nearer = omega arith;
      }

  module _ (x : ℕ) (found : slice_get (inputs_of inputs f.node) f.done ≡ Some x) where
    -- the input is passed
    pub goes_past : mark_of marks x ≡ Done → (k : Frame) → k.node ≡ f.node → k.done ≡ suc f.done → GoesOn inputs marks (path ++ f ∷ []) marks (path ++ k ∷ []) order
    goes_past done k same more =
        let p = sum_by_push (frame_steps (inputs_of inputs)) path f in
        let q = sum_by_push (frame_steps (inputs_of inputs)) path k in
        let lt : f.done < length (inputs_of inputs f.node) = get_within (inputs_of inputs f.node) f.done x found in
        let one : length (inputs_of inputs k.node) ≡ length (inputs_of inputs f.node) = ap (λ (n : ℕ). length (inputs_of inputs n)) same in
        record {
          under_way = passes inputs marks path order f w x found done k same more;
          started = λ n e. e;
          nearer = omega arith;
        }

    -- the input is opened
    pub goes_in :
        x < length marks → mark_of marks x ≡ New → (k : Frame) → k.node ≡ x → k.done ≡ 0
        → GoesOn inputs marks (path ++ f ∷ []) (set marks x Open) ((path ++ f ∷ []) ++ k ∷ []) order
    goes_in lt new k same start =
        let g = inputs_of inputs in
        let at : (m : ℕ) → m ≡ x → IsUnderWay inputs (set marks m Open) ((path ++ f ∷ []) ++ k ∷ []) order → IsUnderWay inputs (set marks x Open) ((path ++ f ∷ []) ++ k ∷ []) order =
        λ m e h. subst (λ (n : ℕ). IsUnderWay inputs (set marks n Open) ((path ++ f ∷ []) ++ k ∷ []) order) e h in
        let was : steps_of (length (inputs_of inputs x)) (mark_of marks x) ≡ length (inputs_of inputs x) + 2 =
        ap (λ (m : Mark). steps_of (length (inputs_of inputs x)) m) new in
        let s = new_steps-set (inputs_of inputs) marks x Open lt in
        let p = sum_by_push (frame_steps (inputs_of inputs)) (path ++ f ∷ []) k in
        let one : length (inputs_of inputs k.node) ≡ length (inputs_of inputs x) = ap (λ (n : ℕ). length (inputs_of inputs n)) same in
        record {
          under_way = at k.node same
              (opens inputs marks (path ++ f ∷ []) order w k start (subst (λ (n : ℕ). n < length marks) (sym same) lt)
              (ap (λ (n : ℕ). mark_of marks n) same ∙ new)
              (λ h i. subst (λ (n : ℕ). Reaches (inputs_of inputs) h.node n) (sym same) (path_reaches inputs marks path order f w x found h i)));
          started = not_renewed marks x Open lt (λ e. cc);
          nearer = omega arith;
        }

    -- the input is open
    pub goes_round : AreNodes inputs → mark_of marks x ≡ Open → HasCycle inputs
    goes_round nodes is_open =
        (x, nodes.inside f.node x (input_here inputs marks path order f w x found), cycle_at inputs marks path order f w x found is_open)

module _ {A : Type 0} (inputs : List (Vec ℕ A)) where
  -- when all are done
  pub all_ordered :
      (marks : List Mark) (path : List Frame) (order : List ℕ) → IsUnderWay inputs marks path order
      → ((n : ℕ) → n < length inputs → mark_of marks n ≡ Done) → OrdersAll inputs order
  all_ordered marks path order w all = record {
    ordered = w.ordered;
    all = λ n lt. w.done_are_listed n (all n lt);
    only = λ n i. subst (λ (k : ℕ). n < k) w.marked (done_within marks n (w.listed_are_done n i));
  }
