-- The loop over a constructor's inputs in code: what each turn asks, and what it leaves, for every state that the buffers held at first.
use Rattle.std.specs.Prelude.{Result, Ok, Err}
use Rattle.std.specs.Prelude.{◌≡◌, List, [], ◌∷◌, ℕ, zero, suc, ◌+◌, ◌*◌, ◌^◌, ◌≤◌, ◌<◌, length, get_or, set, take}
use Rattle.std.proofs.Common.{sym, ap, subst, ◌∙◌, arith, length-set}
use Rattle.definition.specs.Pack.{prop, most_arity, symbol_of}
use Rattle.definition.specs.Run.{outcome}
use Rattle.definition.specs.declared.Refusal.{Refusal}
use Rattle.pack_tables.specs.Catalog.{records_of}
use Rattle.pack_read.specs.Says.{Readable, OfPack}
use Rattle.pack_read.specs.Reads.{length_symbols}
use Rattle.emission.specs.Line.{tally}
use Rattle.emission.specs.State.{Emitter}
use Rattle.emission.specs.Induct.{case_variables}
use Rattle.emit_theory.specs.Search.Cases.{Proper, inputs_proper}
use Rattle.emit_state.specs.Holding.{Buffers, World, Holding, Ready}
use Rattle.emit_state.specs.declared.places.Places.{Places}
use Rattle.emit_state.specs.declared.standing.Standing.{Standing}
use Rattle.emit_case.specs.Asked.{AskedFor}
use Rattle.emit_case.specs.Leaves.{PutTo}
use Rattle.emit_case.specs.Variables.{variable_run, SortGiven, Constructor, Makes, numbers_from, MakesVariables}
use Rattle.emit_case.specs.Naming.{pack_readable}
use Rattle.emit_case.specs.VariablesLeft.{VariablesLeft, variables_first, variables_all, variables_refused, variables_on}

-- the sorts of a constructor's inputs
abbrev pub inputs_of : World → ℕ → List ℕ
inputs_of w c = (symbol_of w.setting.pack c).inputs

-- of sorts that are no judgment's none is
proper_at : (sorts : List ℕ) → Proper sorts → (i : ℕ) → i < length sorts → get_or sorts i 0 ≡ prop → ⊥
proper_at [] P i h = absurd (omega arith)
proper_at (s ∷ ss) P zero h = P.0
proper_at (s ∷ ss) P (suc i) h = proper_at ss P.1 i (omega arith)

module _ (b : Buffers) (l : Places) (t : Standing) (w : World) (e : Emitter) (H : Holding b l t w e) (c : ℕ) (h : c < length w.setting.pack.symbols) where
  -- a symbol is one of the records
  pub symbol_record : c < length (records_of b.work l.hand.catalog 1)
  symbol_record = omega (arith, length_symbols b.pack (records_of b.work l.hand.catalog) w.setting.pack H.reads)

  -- it has few inputs
  pub inputs_few : length (inputs_of w c) ≤ most_arity
  inputs_few = (H.proper.good.symbols c h).arity

  -- none is a judgment
  pub input_proper : (i : ℕ) → i < length (inputs_of w c) → get_or (inputs_of w c) i 0 ≡ prop → ⊥
  input_proper i k = proper_at (inputs_of w c) (inputs_proper w.setting H.proper.good H.proper.few c h) i k

-- the arity can be read
pub arity_asked : (b : Buffers) (l : Places) (m : Standing) (c : ℕ) → AskedFor b l m (Constructor c) → Readable b.pack b.work l.hand.catalog × (c < length (records_of b.work l.hand.catalog 1))
arity_asked b l m c A = (pack_readable b l m A.world A.state A.ready.holding, symbol_record b l m A.world A.state A.ready.holding c A.holds.symbol)

-- n inputs, of which i have their variables
pub record InputsGo (b₀ b : Buffers) (l : Places) (m t : Standing) (c n : ℕ) (vs : List ℕ) (i : ℕ) : Type 0 where
  pub grown : m.store.len ≤ t.store.len
  pub upto : i ≤ n
  pub few : n ≤ most_arity
  pub room : length vs ≡ most_arity
  pub many : (w : World) (e : Emitter) → Ready b₀ l m w e → n ≡ length (inputs_of w c)
  pub left : (w : World) (e : Emitter) → Ready b₀ l m w e → Constructor c w e → VariablesLeft b l t w (inputs_of w c) (tally e.undone.lines).variables vs i (outcome w.lent (case_variables w.setting (inputs_of w c) e))

-- none has
pub inputs_go : (b : Buffers) (l : Places) (m : Standing) (c n : ℕ) (vs : List ℕ) → AskedFor b l m (Constructor c) → length vs ≡ most_arity → OfPack b.pack b.work l.hand.catalog (λ P. length (symbol_of P c).inputs) n → InputsGo b b l m m c n vs 0
inputs_go b l m c n vs A room N =
    let w = A.world in
    let H = A.ready.holding in
    record {
      grown = omega arith;
      upto = omega arith;
      few = omega (arith, N w.setting.pack H.reads, inputs_few b l m w A.state H c A.holds.symbol);
      room = room;
      many = λ w e R. N w.setting.pack R.holding.reads;
      left = λ w e R K. variables_first b l m w e (inputs_of w c) vs R;
    }

module _ (b₀ b : Buffers) (l : Places) (m t : Standing) (c n : ℕ) (vs : List ℕ) (i : ℕ) (G : InputsGo b₀ b l m t c n vs i) where
  -- all have
  pub inputs_end : n ≤ i → MakesVariables b₀ b l m c vs (Ok (t, n))
  inputs_end h = record {
    grown = (G.grown, G.few);
    comes = λ w e R K.
        let L = G.left w e R K in
        let q : i ≡ n = omega (arith, G.upto) in (
          L.made,
          L.state,
          variables_all b l t w (inputs_of w c) (tally e.undone.lines).variables vs i _ L (omega (arith, G.many w e R)),
          G.many w e R,
          L.patterns ∙ ap (λ (k : ℕ). take k vs) q,
          L.numbers ∙ ap (λ (k : ℕ). numbers_from k (suc (tally e.undone.lines).variables)) q,
          L.ready.holding,
        );
  }

  module _ (h : i < n) where
    -- places are few
    pub few_bytes : i * 4 < 2 ^ 64
    few_bytes = omega (arith, G.few)

    pub few_more : i + 1 < 2 ^ 64
    few_more = omega (arith, G.few)

    -- there is a place for its pattern
    pub place-below : i < length vs
    place-below = omega (arith, G.few, G.room)

    -- the next one's sort can be read
    pub input_asked : AskedFor b₀ l m (Constructor c) → (R : Readable b.pack b.work l.hand.catalog) × (c < length (records_of b.work l.hand.catalog 1)) × (i < length (symbol_of R.pack c).inputs)
    input_asked A =
        let w = A.world in
        let L = G.left w A.state A.ready A.holds in
        (pack_readable b l t w L.state L.ready.holding, symbol_record b l t w L.state L.ready.holding c A.holds.symbol, omega (arith, G.many w A.state A.ready))

    module _ (sort : ℕ) (N : OfPack b.pack b.work l.hand.catalog (λ P. get_or (symbol_of P c).inputs i 0) sort) where
      -- it is the next sort, and no judgment's
      record NextSort (w : World) (e : Emitter) : Type 0 where
        left : VariablesLeft b l t w (inputs_of w c) (tally e.undone.lines).variables vs i (outcome w.lent (case_variables w.setting (inputs_of w c) e))
        is_so : sort ≡ get_or (inputs_of w c) i 0
        within : i < length (inputs_of w c)
        proper : get_or (inputs_of w c) i 0 ≡ prop → ⊥
        given : SortGiven sort w left.state

      -- in every state
      next-sort : (w : World) (e : Emitter) → Ready b₀ l m w e → Constructor c w e → NextSort w e
      next-sort w e R K =
          let L = G.left w e R K in
          let q = N w.setting.pack L.ready.holding.reads in
          let k : i < length (inputs_of w c) = omega (arith, G.many w e R) in
          let p = input_proper b l t w L.state L.ready.holding c K.symbol i k in
          record { left = L; is_so = q; within = k; proper = p; given = record { proper = λ z. p (sym q ∙ z) } }

      -- its variable can be made
      pub sort-asked : AskedFor b₀ l m (Constructor c) → AskedFor b l t (SortGiven sort)
      sort-asked A = let M = next-sort A.world A.state A.ready A.holds in record { world = A.world; state = M.left.state; ready = M.left.ready; holds = M.given }

      -- what it came to, by the sort that the pack has
      came-to : (b' : Buffers) (r : Result (Standing × ℕ) Refusal) → Makes b b' l t (SortGiven sort) (λ w. variable_run w.setting sort) r → (w : World) (e : Emitter) (M : NextSort w e)
          → PutTo b' l w (outcome w.lent (variable_run w.setting (get_or (inputs_of w c) i 0) M.left.state)) r
      came-to b' r A w e M = subst (λ (s : ℕ). PutTo b' l w (outcome w.lent (variable_run w.setting s M.left.state)) r) M.is_so (A.comes w M.left.state M.left.ready M.given)

      -- a buffer is short
      pub inputs_short : (b' : Buffers) (vs' : List ℕ) (x : Refusal) → Makes b b' l t (SortGiven sort) (λ w. variable_run w.setting sort) (Err x) → MakesVariables b₀ b' l m c vs' (Err x)
      inputs_short b' vs' x A = record {
        grown = tt;
        comes = λ w e R K.
            let M = next-sort w e R K in
            variables_refused b l t w (inputs_of w c) (tally e.undone.lines).variables vs i _ M.left M.within M.proper x (came-to b' (Err x) A w e M);
      }

      -- it has its variable
      pub inputs_go_on : (b' : Buffers) (u : Standing) (v : ℕ) → Makes b b' l t (SortGiven sort) (λ w. variable_run w.setting sort) (Ok (u, v)) → InputsGo b₀ b' l m u c n (set vs i v) (i + 1)
      inputs_go_on b' u v A = record {
        grown = omega (arith, G.grown, A.grown);
        upto = omega arith;
        few = G.few;
        room = length-set vs i v ∙ G.room;
        many = G.many;
        left = λ w e R K.
            let M = next-sort w e R K in
            variables_on b l t w (inputs_of w c) (tally e.undone.lines).variables vs i _ M.left M.within M.proper place-below b' u v (came-to b' (Ok (u, v)) A w e M);
      }
