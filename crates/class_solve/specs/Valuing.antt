-- The unified premises tested: no circle, and the refs' judgments together an instance.
use Rattle.std.specs.Prelude.{Result, Ok, Err}
use Rattle.std.specs.Prelude.{◌≡◌, refl, true, false, ℕ, zero, suc, ◌+◌, ◌*◌, ◌-◌, ◌≤◌, ◌<◌, get_or, take}
use Rattle.std.proofs.Math.Path.{sym, subst}
use Rattle.std.proofs.Common.{ap, ap₂, ◌∙◌, arith}
use mathlib.Core.List.{List, [], ◌∷◌, ◌++◌, map}
use Rattle.std.proofs.Math.Option.{some}
use Rattle.std.proofs.Math.ListN.{length}
use Rattle.std.proofs.Math.Seq.{take-length}
use Rattle.definition.specs.Pack.{nil, Pack, rule_of, step_of}
use Rattle.definition.specs.Certificate.{count}
use Rattle.definition.specs.Good.{Below, Good}
use Rattle.definition.proofs.Laws.Grow.{below_at}
use Rattle.definition.specs.Verdict.{Bound}
use Rattle.definition.specs.Keys.{first_of}
use Rattle.definition.specs.Graph.{circular}
use Rattle.definition.specs.Analysis.{valued}
use Rattle.definition.specs.Classes.{Built, Premises}
use Rattle.definition.specs.Frame.{refuse}
use Rattle.definition.specs.Answer.{Lent}
use Rattle.definition.specs.Run.{outcome}
use Rattle.definition.specs.declared.Refusal.TheVariants.{Circle, Instance}
use Rattle.theory.specs.Keys.Needed.{first-judgment}
use Rattle.base.specs.Lent.{back as lent_back, back-first}
use Rattle.base.specs.Part.{part, put, length_part}
use Rattle.base.specs.Outside.{Outside, outside_then, outside_wider, part-ahead, part-behind}
use Rattle.base.specs.Upto.{upto_outside}
use Rattle.memo.specs.Recall.{Remembers}
use Rattle.memo.specs.declared.memo.Memo.{Memo}
use Rattle.store.specs.declared.nodes.Store.{Store}
use Rattle.pack_tables.specs.Catalog.{records_of}
use Rattle.pack_tables.specs.declared.catalog.Catalog.{Catalog}
use Rattle.pack_read.specs.Reads.{length_steps}
use Rattle.graph.specs.declared.graph.Graph.{Graph as Counts}
use Rattle.graph.specs.Cells.{nodes_few, Shows, Unchanged}
use Rattle.graph.specs.Inner.{HoldsInner}
use Rattle.graph_unify.specs.Circles.{Tells}
use Rattle.graph_unify.specs.CircleWords.{colours_end}
use Rattle.term_values.specs.Words.{Stands, Framed}
use Rattle.term_values.specs.declared.values.Valued.{Valued}
use Rattle.term_values.specs.declared.fix.Fixed.TheVariants.{Done, Differs as Unlike}
use Rattle.class_keys.specs.declared.classes.Keying.{Keying}
use Rattle.class_keys.specs.declared.classes.Counts.{Counts as KeyCounts}
use Rattle.class_premises.specs.Layout.{table_in, copies_at}
use Rattle.class_premises.specs.Joins.{copies_in}
use Rattle.class_premises.specs.declared.layout.Layout.{Layout}
use Rattle.class_premises.specs.declared.premises.Ruling.{Ruling}
use Rattle.class_premises.specs.declared.premise.Reached.{Reached}
use Rattle.class_premises.specs.declared.building.Building.{Building}
use Rattle.class_premises.specs.Buffers.{Buffers}
use Rattle.class_premises.specs.Given.{refs_of}
use Rattle.class_premises.specs.Next.{Here}
use Rattle.class_premises.specs.AllPremises.{judged}
use Rattle.class_premises.specs.Standing.{Standing, standing_held, standing_behind, standing_on}
use Rattle.class_solve.specs.AllValues.{judgments_to, Starting, GivesAll}
use Rattle.theory.specs.Making.Values.{Grounded, valued_grounded}
use Rattle.theory.specs.Making.Firsts.{firsts-given, judgments-given}
use Rattle.class_solve.specs.Stages.{values_of, behind, behind_circle, behind_differs}
use Rattle.definition.specs.declared.Refusal.{Refusal}

-- all premises are taken
pub record Taken (bytes work class words cells : List ℕ) (c : Catalog) (k : Keying) (l : Layout) (r : KeyCounts) (st : Store) (memo : Memo) (fill : ℕ) (g : Counts) (env : List ℕ) (u : Ruling) (instances : List ℕ) (from copies : ℕ)
    (P : Pack) (b : Built) (refs : List ℕ) (ps : Premises) : Type 0 where
  pub here : Here bytes work class words cells c k l r st memo fill g env u u.premises from copies P b nil refs ps
  pub instances_are : take u.premises instances ≡ ps.instances
  pub judgments : ps.judgments ≡ judged P (refs_of P u)
  pub room : u.premises ≤ length instances

-- what is asked
pub record Valuing (bytes work class words cells : List ℕ) (c : Catalog) (k : Keying) (l : Layout) (st : Store) (memo : Memo) (g : Counts) (env : List ℕ) (u : Ruling) (instances : List ℕ) (from copies : ℕ) : Type 0 where
  pub counts : KeyCounts
  pub fill : ℕ
  pub pack : Pack
  pub built : Built
  pub refs : List ℕ
  pub state : Premises
  pub taken : Taken bytes work class words cells c k l counts st memo fill g env u instances from copies pack built refs state

-- the values are there
pub record Valued-as (bytes work' class words cells : List ℕ) (c : Catalog) (k : Keying) (l : Layout) (r : KeyCounts) (st : Store) (memo : Memo) (fill : ℕ) (g : Counts) (env : List ℕ) (u : Ruling) (from copies : ℕ)
    (P : Pack) (b : Built) (refs : List ℕ) (ps : Premises) : Type 0 where
  pub here : Here bytes work' class words cells c k l r st memo fill g env u u.premises from copies P b nil refs ps
  pub ends : circular ps.graph ≡ false
  pub values : List Bound
  pub is : values_of P ps ≡ some values
  pub grounded : Grounded P values
  pub stands : Stands cells (table_in work' l) g ps.graph values

-- of whatever stands
abbrev pub Whatever : List ℕ → List ℕ → List ℕ → List ℕ → List ℕ → Catalog → Keying → Layout → Store → Memo → Counts → List ℕ → Ruling → List ℕ → ℕ → ℕ → (KeyCounts → ℕ → Pack → Built → List ℕ → Premises → Type 0) → Type 0
Whatever bytes work class words cells c k l st memo g env u instances from copies F =
    (r : KeyCounts) (fill : ℕ) (P : Pack) (b : Built) (refs : List ℕ) (ps : Premises) → Taken bytes work class words cells c k l r st memo fill g env u instances from copies P b refs ps → F r fill P b refs ps

-- what is answered
abbrev pub Values : List ℕ → List ℕ → List ℕ → List ℕ → List ℕ → List ℕ → Catalog → Keying → Layout → Store → Memo → Counts → List ℕ → Ruling → List ℕ → ℕ → ℕ → Result Reached Refusal → Type 0
Values bytes work work' class words cells c k l st memo g env u instances from copies (Ok t) =
    (t.graph ≡ g) × (t.memo ≡ memo) × (t.from ≡ from) × (t.copies ≡ copies) × Outside l.copied l.end work work'
    × Whatever bytes work class words cells c k l st memo g env u instances from copies (λ r fill P b refs ps. Valued-as bytes work' class words cells c k l r st memo fill g env u from copies P b refs ps)
Values bytes work work' class words cells c k l st memo g env u instances from copies (Err z) =
    Whatever bytes work class words cells c k l st memo g env u instances from copies (λ r fill P b refs ps. (L : Lent) → outcome L (behind P u.step b u.rule u.vars ps) ≡ refuse z)

-- both of buffers that are lent, what is at hand and what is reached
abbrev pub ValuingIn : Buffers → Building → Reached → List ℕ → Ruling → List ℕ → Type 0
ValuingIn B s t env u instances =
    Valuing B.pack B.work B.class B.pattern B.graph s.catalog s.keying s.layout s.store t.memo t.graph env u instances t.from t.copies

abbrev pub ValuesIn : Buffers → Buffers → Building → Reached → List ℕ → Ruling → List ℕ → Result Reached Refusal → Type 0
ValuesIn B B' s t env u instances r =
    Values B.pack B.work B'.work B.class B.pattern B.graph s.catalog s.keying s.layout s.store t.memo t.graph env u instances t.from t.copies r

-- taken through the first steps or not
judged-to : (P : Pack) → Good P → (s : ℕ) → s < length P.steps → (i : ℕ) → i ≤ length (step_of P s).refs → judgments_to P s i ≡ judged P (map (first_of P) (take i (step_of P s).refs))
unfolding judgments_to
judged-to P G s h zero l = refl
judged-to P G s h (suc i) l =
    let rs = (step_of P s).refs in
    let q = get_or rs i 0 in
    let e : q < length P.steps = omega (arith, below_at s rs i (G.steps s h).earlier (omega arith), h) in
    ap₂ (λ (xs : List ℕ) (j : ℕ). xs ++ (j ∷ [])) (judged-to P G s h i (omega arith)) (sym (first-judgment P q e)) ∙ sym (more rs i (omega arith))
  where
    more : (xs : List ℕ) (n : ℕ) → n < length xs → judged P (map (first_of P) (take (suc n) xs)) ≡ judged P (map (first_of P) (take n xs)) ++ ((step_of P (first_of P (get_or xs n 0))).judgment ∷ [])
    more [] n m = absurd (omega arith)
    more (x ∷ xs) zero m = refl
    more (x ∷ xs) (suc n) m = ap (λ (ys : List ℕ). (step_of P (first_of P x)).judgment ∷ ys) (more xs n (omega arith))

module _ (bytes work class words cells : List ℕ) (c : Catalog) (k : Keying) (l : Layout) (st : Store) (memo : Memo) (g : Counts) (env : List ℕ) (u : Ruling) (instances : List ℕ) (from copies : ℕ) where
  abbrev v : Valued
  v = record { at = l.graph; end = l.end }

  -- ---- of one pack and one state
  module _ (r : KeyCounts) (fill : ℕ) (P : Pack) (b : Built) (refs : List ℕ) (ps : Premises) (T : Taken bytes work class words cells c k l r st memo fill g env u instances from copies P b refs ps) where
    abbrev H : Here bytes work class words cells c k l r st memo fill g env u u.premises from copies P b nil refs ps
    H = T.here

    abbrev S : Standing bytes work class words cells c k l r st memo fill P b
    S = H.standing

    pub holds_inner : HoldsInner cells (table_in work l) g
    holds_inner = (ps.graph, H.shows, H.inner)

    table_long : length (table_in work l) ≡ l.end - l.graph
    table_long = length_part l.graph (l.end - l.graph) work (omega (arith, S.placed.laid.table, S.placed.laid.inside))

    pub colours_room : colours_end cells ≤ length (table_in work l)
    colours_room = omega (arith, table_long, S.placed.laid.table)

    refs-many : length (step_of P u.step).refs ≡ u.premises
    refs-many = (S.proper.good.steps u.step H.ruled.step).refs ∙ ap (λ (n : ℕ). count (rule_of P n).premises) (sym H.ruled.rule) ∙ sym H.ruled.premises

    judgments_are : judgments_to P u.step u.premises ≡ ps.judgments
    judgments_are =
        judged-to P S.proper.good u.step H.ruled.step u.premises (omega (arith, refs-many))
        ∙ ap (λ (xs : List ℕ). judged P (map (first_of P) xs)) (ap (λ (n : ℕ). take n (step_of P u.step).refs) (sym refs-many) ∙ take-length (step_of P u.step).refs)
        ∙ sym T.judgments

    -- the table came back from the test for circles
    module _ (table' : List ℕ) (U : Unchanged (colours_end cells) (table_in work l) table') where
      up : l.graph ≤ l.end
      up = omega (arith, S.placed.laid.table)

      abbrev back : List ℕ
      back = put l.graph (l.end - l.graph) table' work

      table-back : table_in back l ≡ table'
      table-back = lent_back l.graph l.end work table' up S.placed.laid.inside U.long

      back_outside : Outside l.graph (l.graph + colours_end cells) work back
      back_outside = back-first l.graph l.end work table' up S.placed.laid.inside U.long (colours_end cells) U.words

      standing_back : Standing bytes back class words cells c k l r st memo fill P b
      standing_back =
          standing_on bytes work class words cells c k l r st memo fill P b S back memo
          (upto_outside l.copied l.graph (l.graph + colours_end cells) work back (omega (arith, S.placed.laid.memo, S.placed.laid.stack, S.placed.laid.variables)) back_outside)
          (subst (λ (xs : List ℕ). Remembers xs memo)
          (sym (part-ahead l.graph (l.graph + colours_end cells) work back back_outside l.copied (l.walk - l.copied) (omega (arith, S.placed.laid.memo, S.placed.laid.stack, S.placed.laid.variables))
          (omega (arith, S.placed.laid.memo, S.placed.laid.stack, S.placed.laid.variables, S.placed.laid.table, S.placed.laid.inside))))
          S.remembers)

      module _ (N : Tells cells (table_in work l) table' g false) where
        told : (false ≡ circular ps.graph) × Shows cells table' g ps.graph
        told = N ps.graph H.shows H.inner

        -- the values are asked for
        pub values-start : Starting bytes back cells c v g u.step u.premises instances
        unfolding part
        values-start = record {
          held = record { cataloged = (standing_held bytes back class words cells c k l r st memo fill P b standing_back).cataloged; pack = P; reads = standing_back.reads; proper = S.proper };
          apart = omega (arith, standing_behind bytes work class words cells c k l r st memo fill P b S, S.placed.laid.index, S.placed.laid.memo, S.placed.laid.stack, S.placed.laid.variables);
          placed = record { room = omega (arith, S.placed.laid.table); fits = omega (arith, S.placed.laid.inside, back_outside.long) };
          graph = ps.graph;
          shows = subst (λ (t : List ℕ). Shows cells t g ps.graph) (sym table-back) told.1;
          inner = H.inner;
          ends = sym told.0;
          nodes = subst (Below (length ps.graph)) (sym T.instances_are) H.inside;
          room = T.room;
          step_given = omega (arith, H.ruled.step, length_steps bytes (records_of back c) P standing_back.reads);
          refs = refs-many;
        }

        -- they are those of the definition
        values_are : valued (suc (length ps.graph)) P ps.graph (take u.premises instances) (judgments_to P u.step u.premises) [] ≡ values_of P ps
        values_are = ap₂ (λ (xs ns : List ℕ). valued (suc (length ps.graph)) P ps.graph xs ns []) T.instances_are judgments_are

        pub values_differ : (work' : List ℕ) → GivesAll bytes back work' cells c v g u.step u.premises instances Unlike → (L : Lent) → outcome L (behind P u.step b u.rule u.vars ps) ≡ refuse (Instance u.step)
        unfolding part
        values_differ work' F L =
            behind_differs P u.step [] b u.rule u.vars L ps (sym told.0) (sym values_are ∙ F P standing_back.reads S.proper ps.graph (subst (λ (t : List ℕ). Shows cells t g ps.graph) (sym table-back) told.1) H.inner (sym told.0))

        pub values-given : (work' : List ℕ) → GivesAll bytes back work' cells c v g u.step u.premises instances Done → Valued-as bytes work' class words cells c k l r st memo fill g env u from copies P b refs ps
        unfolding part
        values-given work' F =
            let w = F.1 P standing_back.reads S.proper ps.graph (subst (λ (t : List ℕ). Shows cells t g ps.graph) (sym table-back) told.1) H.inner (sym told.0) in
            let is : values_of P ps ≡ some w.0 = sym values_are ∙ w.1 in
            let O : Outside l.graph (l.graph + (9 * length cells + 7)) back work' = record { long = F.0.long; ahead = F.0.ahead; behind = F.0.behind } in
            let low : l.copied ≤ l.graph = omega (arith, S.placed.laid.memo, S.placed.laid.stack, S.placed.laid.variables) in
            let on : Standing bytes work' class words cells c k l r st memo fill P b =
            standing_on bytes back class words cells c k l r st memo fill P b standing_back work' memo (upto_outside l.copied l.graph (l.graph + (9 * length cells + 7)) back work' low O)
            (subst (λ (xs : List ℕ). Remembers xs memo)
            (sym (part-ahead l.graph (l.graph + (9 * length cells + 7)) back work' O l.copied (l.walk - l.copied) (omega (arith, S.placed.laid.memo, S.placed.laid.stack, S.placed.laid.variables))
            (omega (arith, S.placed.laid.memo, S.placed.laid.stack, S.placed.laid.variables, S.placed.laid.table, S.placed.laid.inside, back_outside.long))))
            standing_back.remembers) in
            let room : copies ≤ length cells = omega (arith, H.few, nodes_few cells (table_in work l) g H.shows.laid, H.shows.laid.fits) in
            let kept : copies_in work' cells l copies ≡ copies_in work cells l copies =
            part-behind l.graph (l.graph + (9 * length cells + 7)) back work' O (l.graph + copies_at cells) copies (omega arith) (omega (arith, room, S.placed.laid.table, S.placed.laid.inside, back_outside.long))
            ∙ part-behind l.graph (l.graph + colours_end cells) work back back_outside (l.graph + copies_at cells) copies (omega arith) (omega (arith, room, S.placed.laid.table, S.placed.laid.inside)) in
            record {
              here = record {
                standing = on;
                ruled = H.ruled;
                env_is = H.env_is;
                left = H.left;
                spelt = H.spelt;
                end = H.end;
                refs-left = H.refs-left;
                shows = w.2.shows;
                inner = H.inner;
                wide = H.wide;
                few = H.few;
                copies_are = kept ∙ H.copies_are;
                inside = H.inside;
                few_args = H.few_args;
                copies_inside = H.copies_inside;
              };
              ends = sym told.0;
              values = w.0;
              is = is;
              grounded =
                  valued_grounded P S.proper.good ps.graph (suc (length ps.graph)) ps.instances ps.judgments [] w.0
                  (subst (Below (length P.nodes)) (sym T.judgments) (judgments-given P S.proper.good (refs_of P u) (firsts-given P S.proper.good u.step H.ruled.step))) tt is;
              stands = w.2;
            }

        pub values_outside : (work' : List ℕ) → Framed cells v back work' → Outside l.copied l.end work work'
        values_outside work' F =
            let low : l.copied ≤ l.graph = omega (arith, S.placed.laid.memo, S.placed.laid.stack, S.placed.laid.variables) in
            outside_then l.copied l.end work back work'
            (outside_wider l.graph (l.graph + colours_end cells) l.copied l.end work back low (omega (arith, S.placed.laid.table)) back_outside)
            (outside_wider l.graph (l.graph + (9 * length cells + 7)) l.copied l.end back work' low (omega (arith, S.placed.laid.table)) (record { long = F.long; ahead = F.ahead; behind = F.behind }))

      -- there is a circle
      pub circle_told : Tells cells (table_in work l) table' g true → (L : Lent) → outcome L (behind P u.step b u.rule u.vars ps) ≡ refuse (Circle u.step)
      circle_told N L = behind_circle P u.step [] b u.rule u.vars L ps (sym (N ps.graph H.shows H.inner).0)
