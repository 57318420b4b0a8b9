-- A rule's variables opened and its premises solved: what the definition's run comes to behind the values.
use Rattle.std.specs.Prelude.{Some, None, Result, Ok, Err}
use Rattle.std.specs.Prelude.{◌≡◌, refl, ℕ, ◌+◌, ◌-◌, ◌≤◌, ◌<◌}
use Rattle.std.proofs.Common.{sym, ◌∙◌, subst, arith}
use mathlib.Core.List.{List}
use Rattle.std.proofs.Math.ListN.{length}
use Rattle.definition.specs.Pack.{Pack, rule_of}
use Rattle.definition.specs.Frame.{fine, refuse}
use Rattle.definition.specs.Answer.{Lent}
use Rattle.definition.specs.Run.{Run, ◌>>=◌, outcome}
use Rattle.definition.specs.Keys.{keyed as keys_of}
use Rattle.definition.specs.Graph.{Graph, up_to, cells as cells_of}
use Rattle.definition.specs.Classes.{Built, Premises}
use Rattle.definition.specs.declared.Refusal.{Refusal}
use Rattle.definition.specs.declared.Refusal.TheVariants.{Short as TooShort}
use Rattle.definition.specs.Store.{nothing}
use Rattle.theory.specs.Copies.Variables.{length_of}
use Rattle.base.specs.Part.{part}
use Rattle.base.specs.Outside.{Outside, outside_then, outside_wider, part-ahead}
use Rattle.base.specs.Upto.{upto_outside}
use Rattle.memo.specs.Recall.{Remembers}
use Rattle.memo.specs.declared.memo.Memo.{Memo}
use Rattle.store.specs.declared.nodes.Store.{Store}
use Rattle.pack_tables.specs.declared.catalog.Catalog.{Catalog}
use Rattle.graph.specs.declared.graph.Graph.{Graph as Counts}
use Rattle.graph.specs.Cells.{rows_end}
use Rattle.graph.specs.Pushes.{cells_shown}
use Rattle.pack_read.specs.Clause.{premises_spelt}
use Rattle.term_instantiate.specs.Variables.{variables_of, Opening, Opens}
use Rattle.class_keys.specs.declared.classes.Keying.{Keying}
use Rattle.class_keys.specs.declared.classes.Counts.{Counts as KeyCounts}
use Rattle.theory.specs.Making.FewArgs.{few_variables}
use Rattle.theory.specs.Making.Runs.{outcome_fine, outcome_refuse}
use Rattle.class_premises.specs.Layout.{place_of, memo_in, table_in}
use Rattle.class_premises.specs.declared.layout.Layout.{Layout}
use Rattle.class_premises.specs.declared.premises.Ruling.{Ruling}
use Rattle.class_premises.specs.declared.premise.Reached.{Reached}
use Rattle.class_premises.specs.declared.building.Building.{Building}
use Rattle.class_premises.specs.Buffers.{Buffers}
use Rattle.class_premises.specs.Given.{Ruled, refs_of, takes}
use Rattle.class_premises.specs.AllPremises.{start, all_of, Begun, Starting, TakesAll}
use Rattle.class_premises.specs.Standing.{Standing, standing_held, standing_behind, standing_on, standing_cells}
use Rattle.class_solve.specs.Stages.{rest, behind, staged, staged_short, staged-from, staged_on, behind_on}
use Rattle.class_solve.specs.Valuing.{Taken, Valuing, Valued-as, Values}

-- ---- from the rule's variables on
-- the premises are solved
pub record From (bytes work' class words cells cells' : List ℕ) (c : Catalog) (k : Keying) (l : Layout) (r : KeyCounts) (st : Store) (memo' : Memo) (fill : ℕ) (g' : Counts) (env : List ℕ) (u : Ruling) (from copies : ℕ)
    (P : Pack) (b : Built) (h : Graph) : Type 0 where
  pub refs : List ℕ
  pub state : Premises
  pub valued : Valued-as bytes work' class words cells' c k l r st memo' fill g' env u from copies P b refs state
  pub is : (L : Lent) → L.graph ≡ length cells → outcome L (takes P b u (all_of P u) (refs_of P u) (start h)) ≡ fine state

-- of whatever stands
abbrev pub Whatever : List ℕ → List ℕ → List ℕ → List ℕ → List ℕ → Catalog → Keying → Layout → Store → Memo → Counts → List ℕ → Ruling → (KeyCounts → ℕ → Pack → Built → Graph → Type 0) → Type 0
Whatever bytes work class words cells c k l st memo g env u F =
    (r : KeyCounts) (fill : ℕ) (P : Pack) (b : Built) (h : Graph) → Begun bytes work class words cells c k l r st memo fill g env u P b h → F r fill P b h

-- the run from the premises on
abbrev pub premised_run : Pack → Built → Ruling → Graph → Run Built
premised_run P b u h = takes P b u (all_of P u) (refs_of P u) (start h) >>= behind P u.step b u.rule u.vars

abbrev pub SolvesFrom : List ℕ → List ℕ → List ℕ → List ℕ → List ℕ → List ℕ → List ℕ → Catalog → Keying → Layout → Store → Memo → Counts → List ℕ → Ruling → Result Reached Refusal → Type 0
SolvesFrom bytes work work' class words cells cells' c k l st memo g env u (Ok t) =
    Outside l.copied l.end work work'
    × Whatever bytes work class words cells c k l st memo g env u (λ r fill P b h. From bytes work' class words cells cells' c k l r st t.memo fill t.graph env u t.from t.copies P b h)
SolvesFrom bytes work work' class words cells cells' c k l st memo g env u (Err z) =
    Whatever bytes work class words cells c k l st memo g env u (λ r fill P b h. (L : Lent) → L.graph ≡ length cells → outcome L (premised_run P b u h) ≡ refuse z)

-- the same of buffers that are lent and what is at hand
abbrev pub SolvesFromIn : Buffers → Buffers → Building → Counts → List ℕ → Ruling → Result Reached Refusal → Type 0
SolvesFromIn B B' s g env u r =
    SolvesFrom B.pack B.work B'.work B.class B.pattern B.graph B'.graph s.catalog s.keying s.layout s.store s.memo g env u r

module _ (bytes work class words cells : List ℕ) (c : Catalog) (k : Keying) (l : Layout) (st : Store) (memo : Memo) (g : Counts) (env : List ℕ) (u : Ruling) (instances : List ℕ)
    (T : Starting bytes work class words cells c k l st memo g env u instances) (work₁ cells₁ instances₁ : List ℕ) (more : length instances₁ ≡ length instances) where
  pub from-refused : (work' cells' : List ℕ) (z : Refusal) → TakesAll bytes work work₁ class words cells cells₁ c k l st memo g env u instances₁ (Err z)
      → SolvesFrom bytes work work' class words cells cells' c k l st memo g env u (Err z)
  from-refused work' cells' z A r fill P b h B L e = outcome_refuse L (takes P b u (all_of P u) (refs_of P u) (start h)) (behind P u.step b u.rule u.vars) z (A r fill P b h B L e)

  module _ (t : Reached) (A : TakesAll bytes work work₁ class words cells cells₁ c k l st memo g env u instances₁ (Ok t)) where
    taken : (r : KeyCounts) (fill : ℕ) (P : Pack) (b : Built) (h : Graph) → (B : Begun bytes work class words cells c k l r st memo fill g env u P b h)
        → Taken bytes work₁ class words cells₁ c k l r st t.memo fill t.graph env u instances₁ t.from t.copies P b (A.1 r fill P b h B).refs (A.1 r fill P b h B).state
    taken r fill P b h B =
        let D = A.1 r fill P b h B in
        record { here = D.here; instances_are = D.instances; judgments = D.judgments; room = omega (arith, T.room) }

    pub from-valuing : Valuing bytes work₁ class words cells₁ c k l st t.memo t.graph env u instances₁ t.from t.copies
    from-valuing =
        let D = A.1 T.counts T.fill T.pack T.built T.graph T.begun in
        record { counts = T.counts; fill = T.fill; pack = T.pack; built = T.built; refs = D.refs; state = D.state; taken = taken T.counts T.fill T.pack T.built T.graph T.begun }

    pub from-values : (work' : List ℕ) (s : Result Reached Refusal) → Values bytes work₁ work' class words cells₁ c k l st t.memo t.graph env u instances₁ t.from t.copies s → SolvesFrom bytes work work' class words cells cells₁ c k l st memo g env u s
    from-values work' (Ok t') V' = (
      outside_then l.copied l.end work work₁ work' A.0 V'.4,
      λ r fill P b h B.
          let D = A.1 r fill P b h B in
          let W = V'.5 r fill P b D.refs D.state (taken r fill P b h B) in
          record {
            refs = D.refs;
            state = D.state;
            valued =
                subst (λ (x : Counts). Valued-as bytes work' class words cells₁ c k l r st t'.memo fill x env u t'.from t'.copies P b D.refs D.state) (sym V'.0)
                (subst (λ (x : Memo). Valued-as bytes work' class words cells₁ c k l r st x fill t.graph env u t'.from t'.copies P b D.refs D.state) (sym V'.1)
                (subst (λ (x : ℕ). Valued-as bytes work' class words cells₁ c k l r st t.memo fill t.graph env u x t'.copies P b D.refs D.state) (sym V'.2)
                (subst (λ (x : ℕ). Valued-as bytes work' class words cells₁ c k l r st t.memo fill t.graph env u t.from x P b D.refs D.state) (sym V'.3) W)));
            is = D.is;
          },
    )
    from-values work' (Err z) V' = λ r fill P b h B L e.
        let D = A.1 r fill P b h B in
        outcome_fine L (takes P b u (all_of P u) (refs_of P u) (start h)) (behind P u.step b u.rule u.vars) D.state (D.is L e) ∙ V' r fill P b D.refs D.state (taken r fill P b h B) L

-- ---- the whole of it
-- what is asked: what was built stands, and the step makes the next class
pub record Solving (bytes work class words cells : List ℕ) (c : Catalog) (k : Keying) (l : Layout) (st : Store) (memo : Memo) (env : List ℕ) (u : Ruling) (instances : List ℕ) : Type 0 where
  pub counts : KeyCounts
  pub fill : ℕ
  pub pack : Pack
  pub built : Built
  pub standing : Standing bytes work class words cells c k l counts st memo fill pack built
  pub ruled : Ruled pack built u
  pub env_is : env ≡ up_to u.vars
  pub room : u.premises ≤ length instances
  pub small : length cells < nothing

-- the premises have their values, and what is left is the rest of the run
pub record Ready (bytes work' class words cells cells' : List ℕ) (c : Catalog) (k : Keying) (l : Layout) (r : KeyCounts) (st : Store) (memo' : Memo) (fill : ℕ) (g' : Counts) (env : List ℕ) (u : Ruling) (from copies : ℕ)
    (P : Pack) (b : Built) : Type 0 where
  pub refs : List ℕ
  pub state : Premises
  pub valued : Valued-as bytes work' class words cells' c k l r st memo' fill g' env u from copies P b refs state
  pub is : (L : Lent) → L.graph ≡ length cells → outcome L (staged P u.step (keys_of P).words b u.rule u.vars) ≡ outcome L (rest P b u.rule u.vars state valued.values)

-- of whatever stands
abbrev pub Of : List ℕ → List ℕ → List ℕ → List ℕ → List ℕ → Catalog → Keying → Layout → Store → Memo → Ruling → (KeyCounts → ℕ → Pack → Built → Type 0) → Type 0
Of bytes work class words cells c k l st memo u F = (r : KeyCounts) (fill : ℕ) (P : Pack) (b : Built) → Standing bytes work class words cells c k l r st memo fill P b → Ruled P b u → F r fill P b

-- the run is refused
abbrev pub Refuses : List ℕ → List ℕ → List ℕ → List ℕ → List ℕ → Catalog → Keying → Layout → Store → Memo → Ruling → Refusal → Type 0
Refuses bytes work class words cells c k l st memo u x =
    Of bytes work class words cells c k l st memo u (λ r fill P b. (L : Lent) → L.graph ≡ length cells → outcome L (staged P u.step (keys_of P).words b u.rule u.vars) ≡ refuse x)

abbrev pub Solves : List ℕ → List ℕ → List ℕ → List ℕ → List ℕ → List ℕ → List ℕ → Catalog → Keying → Layout → Store → Memo → List ℕ → Ruling → Result Reached Refusal → Type 0
Solves bytes work work' class words cells cells' c k l st memo env u (Ok t) =
    Outside l.copied l.end work work'
    × Of bytes work class words cells c k l st memo u (λ r fill P b. Ready bytes work' class words cells cells' c k l r st t.memo fill t.graph env u t.from t.copies P b)
Solves bytes work work' class words cells cells' c k l st memo env u (Err z) = Refuses bytes work class words cells c k l st memo u z

-- both of buffers that are lent and what is at hand
abbrev pub SolvingIn : Buffers → Building → List ℕ → Ruling → List ℕ → Type 0
SolvingIn B s env u instances = Solving B.pack B.work B.class B.pattern B.graph s.catalog s.keying s.layout s.store s.memo env u instances

abbrev pub SolvesIn : Buffers → Buffers → Building → List ℕ → Ruling → Result Reached Refusal → Type 0
SolvesIn B B' s env u r = Solves B.pack B.work B'.work B.class B.pattern B.graph B'.graph s.catalog s.keying s.layout s.store s.memo env u r

module _ (bytes work class words cells : List ℕ) (c : Catalog) (k : Keying) (l : Layout) (st : Store) (memo : Memo) (env : List ℕ) (u : Ruling) (instances : List ℕ) (Z : Solving bytes work class words cells c k l st memo env u instances) where
  rule_there : (P : Pack) (b : Built) (r : KeyCounts) (fill : ℕ) → Standing bytes work class words cells c k l r st memo fill P b → Ruled P b u → u.rule < length P.rules
  rule_there P b r fill S R = subst (λ (n : ℕ). n < length P.rules) (sym R.rule) (S.proper.good.steps u.step R.step).rule

  low : l.copied ≤ l.graph
  low = let S = Z.standing.placed.laid in omega (arith, S.memo, S.stack, S.variables)

  -- the rule's variables are opened
  pub solving_opens : Opening bytes work cells c (place_of l u.rule u.vars)
  solving_opens =
      let S = Z.standing in
      record {
        held = record { cataloged = (standing_held bytes work class words cells c k l Z.counts st memo Z.fill Z.pack Z.built S).cataloged; pack = Z.pack; reads = S.reads; proper = S.proper };
        room = record {
          behind = omega (arith, standing_behind bytes work class words cells c k l Z.counts st memo Z.fill Z.pack Z.built S, S.placed.laid.index, low);
          fits = omega (arith, S.placed.laid.table);
          within = S.placed.laid.inside;
        };
        rule = rule_there Z.pack Z.built Z.counts Z.fill S Z.ruled;
        many = Z.ruled.vars;
        small = Z.small;
      }

  -- there is no room for them
  pub solves_full : (work₁ cells₁ work' cells' : List ℕ) → Opens bytes work work₁ cells cells₁ c (place_of l u.rule u.vars) None → Solves bytes work work' class words cells cells' c k l st memo env u (Err (TooShort 3))
  solves_full work₁ cells₁ work' cells' O r fill P b S R L e = staged_short P u.step (keys_of P).words b u.rule u.vars L (omega (arith, O P S.reads S.proper R.vars, e))

  module _ (g : Counts) (work₁ cells₁ : List ℕ) (O : Opens bytes work work₁ cells cells₁ c (place_of l u.rule u.vars) (Some g)) (long : length cells₁ ≡ length cells) where
    outside : Outside l.graph (l.graph + rows_end cells) work work₁
    outside = O.0

    begun : (r : KeyCounts) (fill : ℕ) (P : Pack) (b : Built) → Standing bytes work class words cells c k l r st memo fill P b → Ruled P b u
        → Begun bytes work₁ class words cells₁ c k l r st memo fill g env u P b (variables_of (rule_of P u.rule).vars)
    unfolding part
    begun r fill P b S R =
        let q = O.1 P S.reads S.proper R.vars in
        let room : l.walk ≤ length work = omega (arith, S.placed.laid.stack, S.placed.laid.variables, S.placed.laid.table, S.placed.laid.inside) in
        let mem : memo_in work₁ l ≡ memo_in work l = part-ahead l.graph (l.graph + rows_end cells) work work₁ outside l.copied (l.walk - l.copied) (omega (arith, S.placed.laid.memo, S.placed.laid.stack, S.placed.laid.variables)) (omega (arith, S.placed.laid.memo)) in
        let on = standing_on bytes work class words cells c k l r st memo fill P b S work₁ memo (upto_outside l.copied l.graph (l.graph + rows_end cells) work work₁ low outside) (subst (λ (xs : List ℕ). Remembers xs memo) (sym mem) S.remembers) in
        record {
          standing = standing_cells bytes work₁ class words cells cells₁ c k l r st memo fill P b long on;
          ruled = R;
          env_is = Z.env_is;
          left = omega (arith, R.premises);
          spelt = premises_spelt P S.proper u.rule (rule_there P b r fill S R) u.vars R.vars;
          end = omega arith;
          refs-left = refl;
          shows = q.0;
          inner = q.1;
          wide = omega (arith, length_of (rule_of P u.rule).vars, R.vars);
          few = omega arith;
          copies_are = refl;
          inside = tt;
          few_args = few_variables (rule_of P u.rule).vars;
          copies_inside = tt;
        }

    room_for : (r : KeyCounts) (fill : ℕ) (P : Pack) (b : Built) → Standing bytes work class words cells c k l r st memo fill P b → Ruled P b u → cells_of (variables_of (rule_of P u.rule).vars) ≤ length cells
    room_for r fill P b S R =
        let B = begun r fill P b S R in
        omega (arith, cells_shown cells₁ (table_in work₁ l) g (variables_of (rule_of P u.rule).vars) B.shows, B.shows.laid.fits, long)

    pub solving_starts : Starting bytes work₁ class words cells₁ c k l st memo g env u instances
    solving_starts = record {
      counts = Z.counts;
      fill = Z.fill;
      pack = Z.pack;
      built = Z.built;
      graph = variables_of (rule_of Z.pack u.rule).vars;
      begun = begun Z.counts Z.fill Z.pack Z.built Z.standing Z.ruled;
      room = Z.room;
    }

    pub solves_from : (work' cells' : List ℕ) (s : Result Reached Refusal) → SolvesFrom bytes work₁ work' class words cells₁ cells' c k l st memo g env u s → Solves bytes work work' class words cells cells' c k l st memo env u s
    solves_from work' cells' (Ok t) F = (
      outside_then l.copied l.end work work₁ work'
          (outside_wider l.graph (l.graph + rows_end cells) l.copied l.end work work₁ low (let S = Z.standing.placed.laid in omega (arith, S.table)) outside) F.0,
      λ r fill P b S R.
          let X = F.1 r fill P b (variables_of (rule_of P u.rule).vars) (begun r fill P b S R) in
          record {
            refs = X.refs;
            state = X.state;
            valued = X.valued;
            is = λ L e.
                staged_on P u.step (keys_of P).words b u.rule u.vars L (omega (arith, room_for r fill P b S R, e)) X.state (X.is L (e ∙ sym long))
                ∙ behind_on P u.step (keys_of P).words b u.rule u.vars L X.state X.valued.ends X.valued.values X.valued.is;
          },
    )
    solves_from work' cells' (Err z) F = λ r fill P b S R L e.
        staged-from P u.step (keys_of P).words b u.rule u.vars L (omega (arith, room_for r fill P b S R, e)) ∙ F r fill P b (variables_of (rule_of P u.rule).vars) (begun r fill P b S R) L (e ∙ sym long)
