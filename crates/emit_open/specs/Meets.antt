-- Nodes are met: one, and all arguments of another.
use Rattle.std.specs.Prelude.{◌≡◌, refl, Bool, false, not, length, get_or, set}
use Rattle.std.proofs.Common.{sym, ◌∙◌, arith}
use Rattle.std.proofs.Math.Path.{ap, subst}
use Rattle.std.proofs.Math.Bool.{true}
use mathlib.Core.List.{List, ◌∷◌}
use Rattle.std.proofs.Math.Option.{none, some}
use Prim.Native.Nat.{ℕ, ◌+◌, ◌≤◌, ◌<◌}
use Rattle.std.proofs.Math.Decide.{ℕ_discrete}
use Rattle.definition.specs.Test.{is, see, never}
use Rattle.definition.specs.Pack.{Node, no_node}
use Rattle.definition.specs.Store.{is_variable, below}
use Rattle.definition.specs.Classes.{is_some}
use Rattle.definition.proofs.Laws.Grow.{below_at}
use Rattle.base.specs.Outside.{Outside, outside_none, outside_then, outside_wider, outside_set}
use Rattle.base.specs.declared.stack.Stack.{Stack}
use Rattle.theory.specs.Copies.Terms.{below-applied}
use Rattle.theory.specs.Unification.Count.{count_fewer}
use Rattle.theory.specs.Walks.Reaching.{Reaching, reaching_meets}
use Rattle.store.specs.Stored.{nodes}
use Rattle.store.specs.declared.nodes.Store.{Store}
use Rattle.memo.specs.Recall.{recall, Remembers}
use Rattle.memo.specs.Lent.{lent, lent-behind, recall_at, Puts}
use Rattle.memo.specs.declared.memo.Memo.{Memo}
use Rattle.emit_open.specs.declared.open.Opening.{Opening}
use Rattle.emit_open.specs.Held.{met_in, waiting, unmet, Given, given_len, given-place, given_on, met-behind, waiting-same}

-- ---- `meet`: what it asks
pub record Meetable (work : List ℕ) (l : Opening) (met : Memo) (todo : Stack) (x : ℕ) : Type 0 where
  pub base : todo.at ≡ l.stack
  pub order : l.met ≤ l.past
  pub fits : l.past ≤ length work
  pub kept : Remembers (lent l.met l.past work) met
  pub place : x < length (recall (lent l.met l.past work) met)
  pub room : met_in work l met x ≡ false → l.stack + todo.len < l.met

-- a node that was not met is met and waits
pub record Enters (work work' : List ℕ) (l : Opening) (met : Memo) (todo : Stack) (x : ℕ) (r : Stack) : Type 0 where
  pub outside : Outside l.stack l.past work work'
  pub kept : Remembers (lent l.met l.past work') met
  pub base : r.at ≡ l.stack
  pub more : r.len ≡ todo.len + 1
  pub stack : waiting work' r ≡ x ∷ waiting work todo
  pub here : met_in work' l met x ≡ true
  pub others : (y : ℕ) → (x ≡ y → ⊥) → met_in work' l met y ≡ met_in work l met y

-- and promises: one that was met changes nothing
abbrev pub Meets : Bool → (work work' : List ℕ) (l : Opening) (met : Memo) (todo : Stack) (x : ℕ) (r : Stack) → Type 0
Meets true work work' l met todo x r = (work' ≡ work) × (r ≡ todo)
Meets false work work' l met todo x r = Enters work work' l met todo x r

module _ (work : List ℕ) (l : Opening) (met : Memo) (todo : Stack) (x : ℕ) (Q : Meetable work l met todo x) where
  -- it was met
  pub meets-known : (v : ℕ) → some v ≡ recall_at l.met l.past work met x → Meets (met_in work l met x) work work l met todo x todo
  unfolding met_in
  meets-known v e = let m : true ≡ met_in work l met x = ap is_some e in rw (← m) (refl, refl)

  -- it was not
  new : none ≡ recall_at l.met l.past work met x → met_in work l met x ≡ false
  unfolding met_in
  new e = ap is_some (sym e)

  module _ (e : none ≡ recall_at l.met l.past work met x) (mid : List ℕ) (W : Puts work mid l.met l.past met x 0) where
    -- there is room for it
    pub meets-room : todo.at + todo.len < length mid
    meets-room = omega (arith, Q.room (new e), Q.base, Q.order, Q.fits, W.outside.long)

    -- it is put on the stack
    pub meets-new : (work' : List ℕ) (r : Stack) → (r.at ≡ todo.at) × (r.len ≡ todo.len + 1) × (waiting work' r ≡ x ∷ waiting mid todo) → work' ≡ set mid (todo.at + todo.len) x
        → Meets (met_in work l met x) work work' l met todo x r
    unfolding met_in
    meets-new work' r S F =
        let top : ℕ = todo.at + todo.len in
        let low : top < l.met = omega (arith, Q.room (new e), Q.base) in
        let B : Outside top (top + 1) mid work' = rw F (outside_set top (top + 1) mid top x (omega arith) (omega arith)) in
        let same : (y : ℕ) → met_in work' l met y ≡ met_in mid l met y = met-behind top (top + 1) mid work' B l (omega arith) Q.order (omega (arith, Q.fits, W.outside.long)) met in
        let E : Enters work work' l met todo x r = record {
          outside = outside_then l.stack l.past work mid work'
              (outside_wider l.met l.past l.stack l.past work mid (omega (arith, low, Q.base)) (omega arith) W.outside)
              (outside_wider top (top + 1) l.stack l.past mid work' (omega (arith, Q.base)) (omega (arith, low, Q.order)) B);
          kept = subst (λ (zs : List ℕ). Remembers zs met) (sym (lent-behind top (top + 1) mid work' B l.met l.past Q.order (omega arith) (omega (arith, Q.fits, W.outside.long)))) W.remembers;
          base = S.0 ∙ Q.base;
          more = S.1;
          stack = S.2 ∙ ap (λ (ws : List ℕ). x ∷ ws) (waiting-same l.met l.past work mid W.outside todo (omega (arith, low)));
          here = same x ∙ ap is_some W.here;
          others = λ y d. same y ∙ ap is_some (W.others y d);
        } in
        let n = new e in
        rw n E

-- ---- `meet_arguments`: what it asks
pub record Taking (work words : List ℕ) (l : Opening) (st : Store) (met : Memo) (todo : Stack) (q k : ℕ) : Type 0 where
  pub given : Given work words l st met
  pub base : todo.at ≡ l.stack
  pub pattern : q < length (nodes words st)
  pub applied : is_variable (get_or (nodes words st) q no_node) ≡ false
  pub arity : k ≡ length (get_or (nodes words st) q no_node).args
  pub room : todo.len + unmet work words l st met ≤ length (nodes words st)

-- with the first j of them met, whatever was known of the walk that takes q is known of what waits then
pub record Meeting (work work' words : List ℕ) (l : Opening) (st : Store) (met : Memo) (todo : Stack) (q : ℕ) (on : Stack) (j : ℕ) : Type 0 where
  pub outside : Outside l.stack l.past work work'
  pub kept : Remembers (lent l.met l.past work') met
  pub base : on.at ≡ l.stack
  pub room : on.len + unmet work' words l st met ≤ todo.len + unmet work words l st met
  pub first : (g : ℕ) → g < j → met_in work' l met (get_or (get_or (nodes words st) q no_node).args g 0) ≡ true
  pub reaching : (c i p : ℕ) (found : ℕ → Bool) → Reaching (nodes words st) c i p (q ∷ waiting work todo) (met_in work l met) found
      → Reaching (nodes words st) c i p (q ∷ waiting work' on) (met_in work' l met) found

-- and promises: all are met
abbrev pub MeetsAll : (work work' words : List ℕ) (l : Opening) (st : Store) (met : Memo) (todo : Stack) (q : ℕ) (r : Stack) → Type 0
MeetsAll work work' words l st met todo q r = Meeting work work' words l st met todo q r (length (get_or (nodes words st) q no_node).args)

-- a test that fails passes its opposite
not-false : (b : Bool) → b ≡ false → not b ≡ true
not-false true e = never (cc)
not-false false e = refl

not-true : (b : Bool) → not b ≡ true → b ≡ false
not-true true e = never (cc)
not-true false e = refl

-- one that is met leaves fewer that are not
pub unmet_fewer : (work work' words : List ℕ) (l : Opening) (st : Store) (met : Memo) (x : ℕ) → x < length (nodes words st) → met_in work l met x ≡ false → met_in work' l met x ≡ true
    → ((y : ℕ) → (x ≡ y → ⊥) → met_in work' l met y ≡ met_in work l met y) → unmet work' words l st met < unmet work words l st met
unmet_fewer work work' words l st met x h n m others = count_fewer (λ y. not (met_in work' l met y)) (λ y. not (met_in work l met y)) (length (nodes words st)) x
    (λ y e. elim (ℕ_discrete x y) [
      | yes q ↦ never (let z : true ≡ false = sym m ∙ ap (met_in work' l met) q ∙ not-true (met_in work' l met y) e in cc)
      | no d ↦ not-false (met_in work l met y) (sym (others y d) ∙ not-true (met_in work' l met y) e)
    ])
    h (ap not m) (not-false (met_in work l met x) n)

module _ (work words : List ℕ) (l : Opening) (st : Store) (met : Memo) (todo : Stack) (q k : ℕ) (Q : Taking work words l st met todo q k) where
  -- the store's nodes, and the arguments
  abbrev s : List Node
  s = nodes words st

  abbrev args : List ℕ
  args = (get_or s q no_node).args

  -- none was met yet
  pub meeting_none : Meeting work work words l st met todo q todo 0
  meeting_none = record {
    outside = outside_none l.stack l.past work;
    kept = Q.given.kept;
    base = Q.base;
    room = omega arith;
    first = λ g h. absurd (omega arith);
    reaching = λ c i p found R. R;
  }

  module _ (work' : List ℕ) (on : Stack) (j : ℕ) (K : Meeting work work' words l st met todo q on j) where
    -- the tables are as they were
    pub meeting_given : Given work' words l st met
    meeting_given = given_on work words l st met Q.given work' met (outside_wider l.stack l.past l.stack l.end work work' (omega arith) (omega (arith, Q.given.gap, Q.given.order)) K.outside) K.kept

    module _ (more : j < k) (x : ℕ) (is_x : x ≡ get_or args j 0) where
      -- there is such an argument
      there : j < length (below (get_or s q no_node))
      there = omega (arith, more, Q.arity, ap (λ (xs : List ℕ). length xs) (below-applied (get_or s q no_node) Q.applied))

      -- among what is below the node
      same : get_or (below (get_or s q no_node)) j 0 ≡ x
      same = ap (λ (xs : List ℕ). get_or xs j 0) (below-applied (get_or s q no_node) Q.applied) ∙ sym is_x

      -- it is a node
      node : x < length s
      node = omega (arith, below_at q (below (get_or s q no_node)) j (Q.given.patterns.earlier q Q.pattern) there, same, Q.pattern)

      -- it can be met
      pub meeting_meetable : Meetable work' l met on x
      meeting_meetable =
          let G = meeting_given in
          record {
            base = K.base;
            order = omega (arith, G.table);
            fits = omega (arith, G.gap, G.order, G.fits);
            kept = K.kept;
            place = given-place work' words l st met G x node;
            room = λ e.
                let f = count_fewer (λ y. false) (λ y. not (met_in work' l met y)) (length s) x (λ y z. never (cc)) node refl (not-false (met_in work' l met x) e) in
                omega (arith, f, K.room, Q.room, G.stack, given_len work' words l st met G);
          }

      -- it is met
      pub meeting_more : (next : List ℕ) (r : Stack) → Meets (met_in work' l met x) work' next l met on x r → Meeting work next words l st met todo q r (j + 1)
      meeting_more next r M = elim (see (met_in work' l met x)) [
        | is true e ↦
            let m : (next ≡ work') × (r ≡ on) = rw e at M in
            let L : Meeting work work' words l st met todo q on (j + 1) = record {
              outside = K.outside;
              kept = K.kept;
              base = K.base;
              room = K.room;
              first = λ g h. elim (ℕ_discrete g j) [
                | yes z ↦ ap (λ (y : ℕ). met_in work' l met (get_or args y 0)) z ∙ ap (met_in work' l met) (sym is_x) ∙ e
                | no d ↦ K.first g (omega arith)
              ];
              reaching = K.reaching;
            } in
            rw (m.0, m.1) L
        | is false e ↦
            let N : Enters work' next l met on x r = rw e at M in
            record {
              outside = outside_then l.stack l.past work work' next K.outside N.outside;
              kept = N.kept;
              base = N.base;
              room = omega (arith, K.room, N.more, unmet_fewer work' next words l st met x node e N.here N.others);
              first = λ g h. elim (ℕ_discrete x (get_or args g 0)) [
                | yes z ↦ ap (met_in next l met) (sym z) ∙ N.here
                | no d ↦ elim (ℕ_discrete g j) [
                  | yes z ↦ absurd (d (is_x ∙ ap (λ (y : ℕ). get_or args y 0) (sym z)))
                  | no b ↦ N.others (get_or args g 0) d ∙ K.first g (omega arith)
                ]
              ];
              reaching = λ c i p found R.
                  let T = reaching_meets s c i Q.given.patterns.earlier p q (waiting work' on) (met_in work' l met) found (K.reaching c i p found R) j there (met_in next l met)
                  (ap (met_in work' l met) same ∙ e) (ap (met_in next l met) same ∙ N.here) (λ y d. N.others y (λ z. d (same ∙ z))) in
                  subst (λ (ws : List ℕ). Reaching s c i p (q ∷ ws) (met_in next l met) found) (ap (λ (y : ℕ). y ∷ waiting work' on) same ∙ sym N.stack) T;
            }
      ]

    -- all are met
    pub meeting_all : k ≤ j → j ≤ k → MeetsAll work work' words l st met todo q on
    meeting_all a b = let e : j ≡ length args = omega (arith, Q.arity) in rw e at K
