-- A rule's class made, as the definition makes it.
use Rattle.std.specs.Prelude.{Result, Ok, Err}
use Rattle.std.specs.Prelude.{◌≡◌, List, ℕ, ◌-◌, ◌≤◌, ◌<◌, length, take, drop}
use Rattle.std.proofs.Common.{sym, ap, ◌∙◌, subst, arith}
use Rattle.definition.specs.Pack.{Pack}
use Rattle.definition.specs.Keys.{keyed as keys_of}
use Rattle.definition.specs.Graph.{up_to}
use Rattle.definition.specs.Classes.{Built, Premises, make_rule}
use Rattle.definition.specs.Answer.{Lent}
use Rattle.definition.specs.Run.{Run, outcome}
use Rattle.definition.specs.declared.Refusal.{Refusal}
use Rattle.definition.specs.Store.{nothing}
use Rattle.base.specs.Outside.{Outside, outside_then, outside_wider}
use Rattle.store.specs.Stored.{nodes, written}
use Rattle.memo.specs.declared.memo.Memo.{Memo}
use Rattle.store.specs.declared.nodes.Store.{Store}
use Rattle.pack_tables.specs.declared.catalog.Catalog.{Catalog}
use Rattle.class_keys.specs.declared.classes.Keying.{Keying}
use Rattle.class_keys.specs.declared.classes.Counts.{Counts as KeyCounts}
use Rattle.term_instantiate.specs.Count.{up-lent}
use Rattle.class_premises.specs.declared.layout.Layout.{Layout}
use Rattle.class_premises.specs.declared.premises.Ruling.{Ruling}
use Rattle.class_premises.specs.declared.premise.Reached.{Reached}
use Rattle.class_premises.specs.declared.building.Building.{Building}
use Rattle.class_premises.specs.Buffers.{Buffers, handed}
use Rattle.class_premises.specs.Given.{Ruled}
use Rattle.class_premises.specs.Standing.{Standing}
use Rattle.class_solve.specs.Stages.{rest, staged, staged_is}
use Rattle.class_solve.specs.Solves.{Solving, Ready, Solves, Refuses}
use Rattle.class_rule.specs.Done.{Done, Refused as RefusedRun, done-same, refused-same}
use Rattle.class_rule.specs.Adding.{Solved, Adding, Adds}
use Rattle.class_premises.specs.declared.building.Counted.{Counted}

-- ---- what is asked and answered
-- what stands at entry: class i is the next, and the step makes it
pub record Asks (bytes work class words cells : List ℕ) (c : Catalog) (k : Keying) (l : Layout) (r : KeyCounts) (st : Store) (memo : Memo) (u : Ruling) (fill i : ℕ) (P : Pack) (b : Built) : Type 0 where
  pub standing : Standing bytes work class words cells c k l r st memo fill P b
  pub ruled : Ruled P b u
  pub number : i ≡ length b.classes
  pub more : i < length (keys_of P).classes

-- some such stands, and the places of class buffer and cells are words
pub record Making (bytes work class words cells : List ℕ) (c : Catalog) (k : Keying) (l : Layout) (st : Store) (memo : Memo) (u : Ruling) (fill i : ℕ) : Type 0 where
  pub counts : KeyCounts
  pub pack : Pack
  pub built : Built
  pub asks : Asks bytes work class words cells c k l counts st memo u fill i pack built
  pub small_cells : length cells < nothing
  pub small : length class < 4294967296

-- the same with an environment for the rule, and room for the premises' instances
pub record Deriving (bytes work class words cells : List ℕ) (c : Catalog) (k : Keying) (l : Layout) (st : Store) (memo : Memo) (env : List ℕ) (u : Ruling) (instances : List ℕ) (fill i : ℕ) : Type 0 where
  pub making : Making bytes work class words cells c k l st memo u fill i
  pub env_is : env ≡ up_to u.vars
  pub room : u.premises ≤ length instances

-- the definition's run
abbrev pub rule_run : Pack → Built → Ruling → Run Built
rule_run P b u = make_rule P u.step (keys_of P).words b

-- of whatever stands
abbrev pub Whatever : List ℕ → List ℕ → List ℕ → List ℕ → List ℕ → Catalog → Keying → Layout → Store → Memo → Ruling → ℕ → ℕ → (KeyCounts → Pack → Built → Type 0) → Type 0
Whatever bytes work class words cells c k l st memo u fill i F = (r : KeyCounts) (P : Pack) (b : Built) → Asks bytes work class words cells c k l r st memo u fill i P b → F r P b

-- the run is refused
abbrev pub RefusedBy : List ℕ → List ℕ → List ℕ → List ℕ → List ℕ → Catalog → Keying → Layout → Store → Memo → Ruling → ℕ → ℕ → Refusal → Type 0
RefusedBy bytes work class words cells c k l st memo u fill i x = Whatever bytes work class words cells c k l st memo u fill i (λ r P b. RefusedRun class words cells (rule_run P b u) x)

-- what `make_rule` answers
abbrev pub Makes : List ℕ → List ℕ → List ℕ → List ℕ → List ℕ → List ℕ → List ℕ → List ℕ → List ℕ → Catalog → Keying → Layout → Store → Memo → Ruling → ℕ → ℕ → Result (Building × Counted) Refusal → Type 0
Makes bytes work class words cells work' class' words' cells' c k l st memo u fill i (Ok (s', f)) =
    (s' ≡ handed c k l s'.store s'.memo s'.fill)
    × Whatever bytes work class words cells c k l st memo u fill i (λ r P b. Done class words cells bytes work' class' words' cells' c k l r s'.store s'.memo s'.fill f P b (rule_run P b u))
    × (words' ≡ written (nodes words' s'.store) words)
    × Outside l.rows l.end work work'
    × Outside fill s'.fill class class'
Makes bytes work class words cells work' class' words' cells' c k l st memo u fill i (Err z) = RefusedBy bytes work class words cells c k l st memo u fill i z

-- both of buffers that are lent and what is at hand
abbrev pub MakingIn : Buffers → Building → Ruling → ℕ → Type 0
MakingIn B s u i = Making B.pack B.work B.class B.pattern B.graph s.catalog s.keying s.layout s.store s.memo u s.fill i

abbrev pub DerivingIn : Buffers → Building → List ℕ → Ruling → List ℕ → ℕ → Type 0
DerivingIn B s env u instances i = Deriving B.pack B.work B.class B.pattern B.graph s.catalog s.keying s.layout s.store s.memo env u instances s.fill i

abbrev pub MakesIn : Buffers → Buffers → Building → Ruling → ℕ → Result (Building × Counted) Refusal → Type 0
MakesIn B B' s u i r =
    Makes B.pack B.work B.class B.pattern B.graph B'.work B'.class B'.pattern B'.graph s.catalog s.keying s.layout s.store s.memo u s.fill i r

-- ---- what `make_rule` needs
-- the definition's run by its stages
run_is : (P : Pack) (b : Built) (u : Ruling) → Ruled P b u → rule_run P b u ≡ staged P u.step (keys_of P).words b u.rule u.vars
run_is P b u R = staged_is P u.step (keys_of P).words b u.rule u.vars R.rule R.vars

-- ---- the environment
module _ (bytes work class words cells : List ℕ) (c : Catalog) (k : Keying) (l : Layout) (st : Store) (memo : Memo) (u : Ruling) (fill i : ℕ) (K : Making bytes work class words cells c k l st memo u fill i) where
  -- the rule has few variables and premises
  pub making_few : (u.vars ≤ 64) × (u.premises ≤ 16)
  making_few =
      let R = K.asks.ruled in
      let Q = K.asks.standing.proper.good in
      let g = Q.rules u.rule (subst (λ (n : ℕ). n < length K.pack.rules) (sym R.rule) (Q.steps u.step R.step).rule) in
      (omega (arith, R.vars, g.variables), omega (arith, R.premises, g.arity))

  pub making_derives : (env instances : List ℕ) → take u.vars env ≡ up_to u.vars → length instances ≡ 16 → Deriving bytes work class words cells c k l st memo (take (u.vars - 0) (drop 0 env)) u instances fill i
  making_derives env instances e m = record { making = K; env_is = up-lent env u.vars e; room = omega (arith, making_few.1, m) }

-- ---- what `derive_class` needs
module _ (bytes work class words cells : List ℕ) (c : Catalog) (k : Keying) (l : Layout) (st : Store) (memo : Memo) (env : List ℕ) (u : Ruling) (instances : List ℕ) (fill i : ℕ)
    (D : Deriving bytes work class words cells c k l st memo env u instances fill i) where
  abbrev K : Making bytes work class words cells c k l st memo u fill i
  K = D.making

  -- the premises may be solved
  pub making_solves : Solving bytes work class words cells c k l st memo env u instances
  making_solves = record {
    counts = K.counts;
    fill = fill;
    pack = K.pack;
    built = K.built;
    standing = K.asks.standing;
    ruled = K.asks.ruled;
    env_is = D.env_is;
    room = D.room;
    small = K.small_cells;
  }

  -- they are refused
  pub makes_refused : (x : Refusal) → Refuses bytes work class words cells c k l st memo u x → RefusedBy bytes work class words cells c k l st memo u fill i x
  makes_refused x R r P b A L e = ap (outcome L) (run_is P b u A.ruled) ∙ R r fill P b A.standing A.ruled L e.cells_long

  -- they are solved
  module _ (t : Reached) (work₁ cells₁ : List ℕ) (more-cells : length cells₁ ≡ length cells) (X : Solves bytes work work₁ class words cells cells₁ c k l st memo env u (Ok t)) where
    -- what is left to do
    ready : (r : KeyCounts) (P : Pack) (b : Built) → Asks bytes work class words cells c k l r st memo u fill i P b → Ready bytes work₁ class words cells cells₁ c k l r st t.memo fill t.graph env u t.from t.copies P b
    ready r P b A = X.1 r fill P b A.standing A.ruled

    -- the class is the next still
    solved : (r : KeyCounts) (P : Pack) (b : Built) (A : Asks bytes work class words cells c k l r st memo u fill i P b)
        → Solved bytes work₁ class words cells₁ c k l r st t.memo t.graph env u t.from t.copies fill i P b (ready r P b A).refs (ready r P b A).state
    solved r P b A = record { valued = (ready r P b A).valued; number = A.number; more = A.more }

    -- the class may be added
    pub making-adds : Adding bytes work₁ class words cells₁ c k l st t.memo t.graph env u t.from t.copies fill i
    making-adds =
        let R = ready K.counts K.pack K.built K.asks in
        record { counts = K.counts; pack = K.pack; built = K.built; refs = R.refs; state = R.state; solved = solved K.counts K.pack K.built K.asks; small = K.small }

    -- the run comes to what is left to do
    left : (r : KeyCounts) (P : Pack) (b : Built) (A : Asks bytes work class words cells c k l r st memo u fill i P b) (L : Lent) → L.graph ≡ length cells
        → outcome L (rule_run P b u) ≡ outcome L (rest P b u.rule u.vars (ready r P b A).state (ready r P b A).valued.values)
    left r P b A L e = ap (outcome L) (run_is P b u A.ruled) ∙ (ready r P b A).is L e

    -- it was refused there
    refused : (x : Refusal) → ((r : KeyCounts) (P : Pack) (b : Built) (refs : List ℕ) (ps : Premises) (Z : Solved bytes work₁ class words cells₁ c k l r st t.memo t.graph env u t.from t.copies fill i P b refs ps)
        → RefusedRun class words cells₁ (rest P b u.rule u.vars ps Z.valued.values) x) → RefusedBy bytes work class words cells c k l st memo u fill i x
    unfolding solved
    refused x F r P b A =
        refused-same class words cells cells₁ more-cells (rule_run P b u) (rest P b u.rule u.vars (ready r P b A).state (ready r P b A).valued.values) (left r P b A) x
        (F r P b (ready r P b A).refs (ready r P b A).state (solved r P b A))

    -- so the class is made, or not
    pub makes : (work' class' words' cells' : List ℕ) (m : Result (Building × Counted) Refusal) → Adds bytes work₁ class words cells₁ work' class' words' cells' c k l st t.memo t.graph env u t.from t.copies fill i m
        → Makes bytes work class words cells work' class' words' cells' c k l st memo u fill i m
    unfolding solved
    makes work' class' words' cells' (Ok (s', f)) A = (
      A.0,
      (λ r P b Q.
          let R = ready r P b Q in
          done-same class words cells cells₁ more-cells (rule_run P b u) (rest P b u.rule u.vars R.state R.valued.values) (left r P b Q) bytes work' class' words' cells' c k l r s'.store s'.memo s'.fill f P b
          (A.1 r P b R.refs R.state (solved r P b Q))),
      A.2,
      (let S = K.asks.standing.placed in
          outside_then l.rows l.end work work₁ work' (outside_wider l.copied l.end l.rows l.end work work₁ (omega (arith, S.rows, S.laid.index)) (omega arith) X.0) A.3),
      A.4,
    )
    makes work' class' words' cells' (Err z) A = refused z A
