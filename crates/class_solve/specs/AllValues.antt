-- All premises' instances against the judgments of the refs.
use Rattle.std.specs.Prelude.{◌≡◌, refl, false, get_or, take, drop}
use Rattle.std.proofs.Math.Path.{sym, ap, ap₂}
use Rattle.std.proofs.Common.{◌∙◌, length-append, take-append-drop, take-suc, take-take, get_or-take}
use mathlib.Core.List.{List, [], ◌∷◌, ◌++◌, append_assoc, append-nil}
use Rattle.std.proofs.Math.Option.{none, some}
use Prim.Native.Nat.{ℕ, zero, suc, ◌+◌, ◌-◌, ◌≤◌, ◌<◌}
use native.Mathlib.Omega.{arith}
use Rattle.std.proofs.Math.ListN.{length}
use Rattle.std.proofs.Math.Seq.{length-take-le}
use Rattle.definition.specs.Pack.{Pack, step_of}
use Rattle.definition.specs.Good.{Below}
use Rattle.definition.proofs.Laws.Grow.{below_at}
use Rattle.definition.specs.Verdict.{Bound}
use Rattle.definition.specs.Graph.{Graph, circular}
use Rattle.definition.specs.Analysis.{valued}
use Rattle.term_values.specs.Words.{values_end, table_in, Stands, Placed, Framed, framed_same, placed_on}
use Rattle.base.specs.Outside.{outside_none, outside_then}
use Rattle.pack_tables.specs.Catalog.{records_of}
use Rattle.pack_tables.specs.SameTables.{end_of, Same, same-records}
use Rattle.pack_tables.specs.declared.catalog.Catalog.{Catalog}
use Rattle.pack_read.specs.Reads.{Reads, length_steps}
use Rattle.pack_read.specs.Held.{Held, OfHeld, held_on, reads_on}
use Rattle.theory.specs.Unification.Inner.{Inner}
use Rattle.graph.specs.declared.graph.Graph.{Graph as Counts}
use Rattle.graph.specs.Cells.{Shows}
use Rattle.graph.specs.Inner.{many-nodes}
use Rattle.term_values.specs.Stores.{Clears}
use Rattle.term_values.specs.declared.values.Valued.{Valued}
use Rattle.term_values.specs.declared.fix.Fixed.{Fixed}
use Rattle.term_values.specs.declared.fix.Fixed.TheVariants.{Done, Differs}
use Rattle.theory.specs.Making.Values.{valued_nil, valued_snoc, valued-none}
use Rattle.class_solve.specs.OneValue.{judgment_of, Asking, Gives}

-- the judgments of the first i refs
unfoldable pub judgments_to : Pack → ℕ → ℕ → List ℕ
judgments_to P step zero = []
judgments_to P step (suc i) = judgments_to P step i ++ (judgment_of P step i ∷ [])

length-judgments : (P : Pack) (step i : ℕ) → length (judgments_to P step i) ≡ i
unfolding judgments_to
length-judgments P step zero = refl
length-judgments P step (suc i) = length-append (judgments_to P step i) (judgment_of P step i ∷ []) ∙ omega (arith, length-judgments P step i)

-- what is asked: a graph without circles, instances among its nodes, and a step with as many refs
pub record Starting (bytes work cells : List ℕ) (c : Catalog) (v : Valued) (g : Counts) (step n : ℕ) (instances : List ℕ) : Type 0 where
  pub held : Held bytes work c
  pub apart : end_of c ≤ v.at
  pub placed : Placed cells work v
  pub graph : Graph
  pub shows : Shows cells (table_in v work) g graph
  pub inner : Inner graph
  pub ends : circular graph ≡ false
  pub nodes : Below (length graph) (take n instances)
  pub room : n ≤ length instances
  pub step_given : step < length (records_of work c 4)
  pub refs : length (step_of held.pack step).refs ≡ n

-- there are few
pub starting_few : (bytes work cells : List ℕ) (c : Catalog) (v : Valued) (g : Counts) (step n : ℕ) (instances : List ℕ) → Starting bytes work cells c v g step n instances → n ≤ 16
starting_few bytes work cells c v g step n instances T =
    let H = T.held in
    let l : step < length H.pack.steps = omega (arith, T.step_given, length_steps bytes (records_of work c) H.pack H.reads) in
    let s = H.proper.good.steps step l in
    omega (arith, T.refs, s.refs, (H.proper.good.rules (step_of H.pack step).rule s.rule).arity)

-- of whatever pack and graph are held
abbrev pub Says : List ℕ → List ℕ → List ℕ → Catalog → Valued → Counts → (Pack → Graph → Type 0) → Type 0
Says bytes work cells c v g F = OfHeld bytes work c (λ P. (h : Graph) → Shows cells (table_in v work) g h → Inner h → circular h ≡ false → F P h)

-- what is answered
abbrev pub GivesAll : List ℕ → List ℕ → List ℕ → List ℕ → Catalog → Valued → Counts → ℕ → ℕ → List ℕ → Fixed → Type 0
GivesAll bytes work work' cells c v g step n instances Done =
    Framed cells v work work' × Says bytes work cells c v g (λ P h. (ws : List Bound) × (valued (suc (length h)) P h (take n instances) (judgments_to P step n) [] ≡ some ws) × Stands cells (table_in v work') g h ws)
GivesAll bytes work work' cells c v g step n instances Differs = Says bytes work cells c v g (λ P h. valued (suc (length h)) P h (take n instances) (judgments_to P step n) [] ≡ none)

-- ---- the loop, from words on that say no value
-- no node has a value
pub record Begun (bytes work cells : List ℕ) (c : Catalog) (v : Valued) (g : Counts) (step n : ℕ) (instances : List ℕ) : Type 0 where
  pub starting : Starting bytes work cells c v g step n instances
  pub none-given : Stands cells (table_in v work) g starting.graph []

abbrev pub SaysNone : List ℕ → List ℕ → List ℕ → Catalog → Valued → Counts → (Pack → Graph → Type 0) → Type 0
SaysNone bytes work cells c v g F = OfHeld bytes work c (λ P. (h : Graph) → Stands cells (table_in v work) g h [] → F P h)

abbrev pub GivesFrom : List ℕ → List ℕ → List ℕ → List ℕ → Catalog → Valued → Counts → ℕ → ℕ → List ℕ → Fixed → Type 0
GivesFrom bytes work work' cells c v g step n instances Done =
    Framed cells v work work' × SaysNone bytes work cells c v g (λ P h. (ws : List Bound) × (valued (suc (length h)) P h (take n instances) (judgments_to P step n) [] ≡ some ws) × Stands cells (table_in v work') g h ws)
GivesFrom bytes work work' cells c v g step n instances Differs = SaysNone bytes work cells c v g (λ P h. valued (suc (length h)) P h (take n instances) (judgments_to P step n) [] ≡ none)

pub record Going (bytes before work cells : List ℕ) (c : Catalog) (v : Valued) (g : Counts) (step n : ℕ) (instances : List ℕ) (i : ℕ) : Type 0 where
  pub low : i ≤ n
  pub framed : Framed cells v before work
  pub state : SaysNone bytes before cells c v g (λ P h. (ws : List Bound) × (valued (suc (length h)) P h (take i instances) (judgments_to P step i) [] ≡ some ws) × Stands cells (table_in v work) g h ws)

pub going_none : (bytes work cells : List ℕ) (c : Catalog) (v : Valued) (g : Counts) (step n : ℕ) (instances : List ℕ) → Going bytes work work cells c v g step n instances 0
unfolding judgments_to
going_none bytes work cells c v g step n instances = record { low = omega arith; framed = outside_none v.at (v.at + values_end cells) work; state = λ P R Q h S. ([], valued_nil (length h) P h [], S) }

module _ (bytes before cells : List ℕ) (c : Catalog) (v : Valued) (g : Counts) (step n : ℕ) (instances : List ℕ) (B : Begun bytes before cells c v g step n instances) (work : List ℕ) (i : ℕ)
    (G : Going bytes before work cells c v g step n instances i) where
  abbrev T : Starting bytes before cells c v g step n instances
  T = B.starting

  -- the pack is held still
  abbrev held : Held bytes work c
  held = held_on bytes before work c (framed_same cells v before work c T.apart G.framed) T.held

  reads : (P : Pack) → Reads bytes (records_of before c) P → Reads bytes (records_of work c) P
  reads P R = reads_on bytes before work c (framed_same cells v before work c T.apart G.framed) T.held.cataloged P R

  abbrev now : (ws : List Bound) × (valued (suc (length T.graph)) T.held.pack T.graph (take i instances) (judgments_to T.held.pack step i) [] ≡ some ws) × Stands cells (table_in v work) g T.graph ws
  now = G.state T.held.pack T.held.reads T.held.proper T.graph B.none-given

  module _ (more : i < n) where
    pub node_there : get_or instances i 0 < g.nodes
    node_there =
        let l = length-take-le n instances T.room in
        omega (arith, below_at (length T.graph) (take n instances) i T.nodes (omega (arith, l)), get_or-take n instances i 0 more, many-nodes cells (table_in v before) g T.graph T.shows)

    steps_same : step < length (records_of work c 4)
    steps_same = omega (arith, T.step_given, ap length (same-records before work c (framed_same cells v before work c T.apart G.framed) T.held.cataloged.fits 4 (omega arith)))

    pub going_asks : Asking bytes work cells c v g step i (get_or instances i 0)
    going_asks = record {
      values = record { held = held; apart = T.apart; placed = placed_on cells v before work G.framed T.placed; graph = T.graph; values = now.0; stands = now.2 };
      node = node_there;
      step_given = steps_same;
      ref-given = omega (arith, T.refs);
    }

    -- one instance more
    one_more : take (suc i) instances ≡ take i instances ++ (get_or instances i 0 ∷ [])
    one_more = take-suc instances i 0 (omega (arith, T.room))

    many : (P : Pack) → length (take i instances) ≡ length (judgments_to P step i)
    many P = length-take-le i instances (omega (arith, T.room)) ∙ sym (length-judgments P step i)

    pub going_on : (work' : List ℕ) → Gives bytes work work' cells c v g step i (get_or instances i 0) Done → Going bytes before work' cells c v g step n instances (i + 1)
    unfolding judgments_to
    going_on work' F = record {
      low = omega arith;
      framed = outside_then v.at (v.at + values_end cells) before work work' G.framed F.0;
      state = λ P R Q h S.
          let w = G.state P R Q h S in
          let x = F.1 P (reads P R) Q h w.0 w.2 in
          let e : i + 1 ≡ suc i = omega arith in
          let q : valued (suc (length h)) P h (take (suc i) instances) (judgments_to P step (suc i)) [] ≡ some x.0 =
          ap (λ (xs : List ℕ). valued (suc (length h)) P h xs (judgments_to P step (suc i)) []) one_more
          ∙ valued_snoc (length h) P h (take i instances) (judgments_to P step i) (get_or instances i 0) (judgment_of P step i) [] w.0 (many P) w.1
          ∙ x.1 in
          (x.0, ap (λ (j : ℕ). valued (suc (length h)) P h (take j instances) (judgments_to P step j) []) e ∙ q, x.2);
    }

    -- what is left of the instances and judgments
    instances_rest : take n instances ≡ take (suc i) instances ++ drop (suc i) (take n instances)
    instances_rest = sym (take-append-drop (suc i) (take n instances)) ∙ ap (λ (xs : List ℕ). xs ++ drop (suc i) (take n instances)) (take-take (suc i) n instances (omega arith))

    judgments-rest : (P : Pack) (k : ℕ) → (rest : List ℕ) × (judgments_to P step (suc i + k) ≡ judgments_to P step (suc i) ++ rest)
    unfolding judgments_to
    judgments-rest P zero = let e : suc i + 0 ≡ suc i = omega arith in ([], ap (judgments_to P step) e ∙ sym (append-nil (judgments_to P step (suc i))))
    judgments-rest P (suc k) =
        let r = judgments-rest P k in
        let e : suc i + suc k ≡ suc (suc i + k) = omega arith in
        (r.0 ++ (judgment_of P step (suc i + k) ∷ []), ap (judgments_to P step) e ∙ ap (λ (xs : List ℕ). xs ++ (judgment_of P step (suc i + k) ∷ [])) r.1 ∙ append_assoc (judgments_to P step (suc i)) r.0 (judgment_of P step (suc i + k) ∷ []))

    pub going_stop : (work' : List ℕ) → Gives bytes work work' cells c v g step i (get_or instances i 0) Differs → GivesFrom bytes before work' cells c v g step n instances Differs
    unfolding judgments_to
    going_stop work' F = λ P R Q h S.
        let w = G.state P R Q h S in
        let x = F.1 P (reads P R) Q h w.0 w.2 in
        let q : valued (suc (length h)) P h (take (suc i) instances) (judgments_to P step (suc i)) [] ≡ none =
        ap (λ (xs : List ℕ). valued (suc (length h)) P h xs (judgments_to P step (suc i)) []) one_more
        ∙ valued_snoc (length h) P h (take i instances) (judgments_to P step i) (get_or instances i 0) (judgment_of P step i) [] w.0 (many P) w.1
        ∙ x in
        let r = judgments-rest P (n - suc i) in
        let e : suc i + (n - suc i) ≡ n = omega arith in
        let js : judgments_to P step n ≡ judgments_to P step (suc i) ++ r.0 = ap (judgments_to P step) (sym e) ∙ r.1 in
        let l : length (take (suc i) instances) ≡ length (judgments_to P step (suc i)) = length-take-le (suc i) instances (omega (arith, T.room)) ∙ sym (length-judgments P step (suc i)) in
        ap₂ (λ (xs ys : List ℕ). valued (suc (length h)) P h xs ys []) instances_rest js
        ∙ valued-none (length h) P h (take (suc i) instances) (judgments_to P step (suc i)) (drop (suc i) (take n instances)) r.0 [] l q

  pub going_done : n ≤ i → GivesFrom bytes before work cells c v g step n instances Done
  going_done h =
      let e : i ≡ n = omega (arith, G.low) in
      (G.framed, λ P R Q k S. let w = G.state P R Q k S in (w.0, ap (λ (j : ℕ). valued (suc (length k)) P k (take j instances) (judgments_to P step j) []) (sym e) ∙ w.1, w.2))

-- ---- all values taken away first
module _ (bytes work cells : List ℕ) (c : Catalog) (v : Valued) (g : Counts) (step n : ℕ) (instances : List ℕ) (T : Starting bytes work cells c v g step n instances) (work₁ : List ℕ) (C : Clears cells work work₁ v g) where
  same : Same work work₁ c
  same = framed_same cells v work work₁ c T.apart C.1

  cleared : Stands cells (table_in v work₁) g T.graph []
  cleared = C.0 T.graph T.shows T.inner T.ends

  pub cleared-begun : Begun bytes work₁ cells c v g step n instances
  cleared-begun = record {
    starting = record {
      held = held_on bytes work work₁ c same T.held;
      apart = T.apart;
      placed = placed_on cells v work work₁ C.1 T.placed;
      graph = T.graph;
      shows = cleared.shows;
      inner = T.inner;
      ends = T.ends;
      nodes = T.nodes;
      room = T.room;
      step_given = omega (arith, T.step_given, ap length (same-records work work₁ c same T.held.cataloged.fits 4 (omega arith)));
      refs = T.refs;
    };
    none-given = cleared;
  }

  pub gives_all : (work' : List ℕ) (r : Fixed) → GivesFrom bytes work₁ work' cells c v g step n instances r → GivesAll bytes work work' cells c v g step n instances r
  gives_all work' Done F = (outside_then v.at (v.at + values_end cells) work work₁ work' C.1 F.0, λ P R Q h S I E. F.1 P (reads_on bytes work work₁ c same T.held.cataloged P R) Q h (C.0 h S I E))
  gives_all work' Differs F = λ P R Q h S I E. F P (reads_on bytes work work₁ c same T.held.cataloged P R) Q h (C.0 h S I E)
