-- The next premise as the code asks for it: the ref and its first step are read, then the row of its class.
use Rattle.std.specs.Prelude.{Result, Ok, Err}
use Rattle.std.specs.Prelude.{◌≡◌, List, ℕ, ◌+◌, ◌<◌, length, get_or}
use Rattle.std.proofs.Common.{sym, ap, ◌∙◌, subst}
use Rattle.definition.specs.Pack.{Terms, Pack, step_of}
use Rattle.definition.specs.Keys.{first_of}
use Rattle.definition.specs.Classes.{Built, Premises}
use Rattle.memo.specs.declared.memo.Memo.{Memo}
use Rattle.store.specs.declared.nodes.Store.{Store}
use Rattle.pack_tables.specs.Catalog.{records_of}
use Rattle.pack_tables.specs.declared.catalog.Catalog.{Catalog}
use Rattle.pack_read.specs.Held.{OfHeld}
use Rattle.pack_read.specs.Says.{Readable, OfPack}
use Rattle.graph.specs.declared.graph.Graph.{Graph as Counts}
use Rattle.class_keys.specs.Firsts.{Noted}
use Rattle.class_keys.specs.Keyed.{keyed-noted}
use Rattle.class_keys.specs.declared.classes.Keying.{Keying}
use Rattle.class_keys.specs.declared.classes.Counts.{Counts as KeyCounts}
use Rattle.class_premises.specs.Takes.{row_in, Taking, TakesTo}
use Rattle.class_premises.specs.declared.layout.Layout.{Layout}
use Rattle.class_premises.specs.declared.premise.Premise.{Premise}
use Rattle.class_premises.specs.declared.premises.Ruling.{Ruling}
use Rattle.class_premises.specs.Next.{Here, Nexting, Nexts, ref_there, ref_record, step_there, word_there, place_there, next_taking, row_read, next-refused, next_on}
use Rattle.base.specs.declared.id.Node.{Node as Id}
use Rattle.class_premises.specs.declared.premise.Reached.{Reached}
use Rattle.definition.specs.declared.Refusal.{Refusal}

module _ (bytes work class words cells : List ℕ) (c : Catalog) (k : Keying) (l : Layout) (st : Store) (memo : Memo) (g : Counts) (env : List ℕ) (u : Ruling) (i from copies : ℕ)
    (N : Nexting bytes work class words cells c k l st memo g env u i from copies) where
  -- the step's refs can be read
  pub ref-asked : (R : Readable bytes work c) × (u.step < length (records_of work c 4)) × (i < length (step_of R.pack u.step).refs)
  ref-asked =
      let H = N.here.standing.lifts.laid.held in (
        record { cataloged = H.cataloged; pack = N.pack; reads = N.here.standing.reads },
        step_there bytes work class words cells c k l N.counts st memo N.fill g env u i from copies N.pack N.built N.terms N.refs N.state N.here N.more,
        ref_there bytes work class words cells c k l N.counts st memo N.fill g env u i from copies N.pack N.built N.terms N.refs N.state N.here N.more,
      )

  module _ (q : ℕ) (Q : OfPack bytes work c (λ P. get_or (step_of P u.step).refs i 0) q) where
    -- so can the ref's first step
    pub first-asked : Noted bytes work c k.at × (q < length (records_of work c 4))
    first-asked = (
      keyed-noted bytes work class c k N.counts N.here.standing.keyed,
      subst (λ (n : ℕ). n < length (records_of work c 4)) (sym (Q N.pack N.here.standing.reads))
          (ref_record bytes work class words cells c k l N.counts st memo N.fill g env u i from copies N.pack N.built N.terms N.refs N.state N.here N.more),
    )

    module _ (f : ℕ) (W : OfHeld bytes work c (λ P. f ≡ first_of P q)) where
      first_is : (r : KeyCounts) (fill : ℕ) (P : Pack) (b : Built) (ts : Terms) (refs : List ℕ) (ps : Premises) → Here bytes work class words cells c k l r st memo fill g env u i from copies P b ts refs ps
          → f ≡ first_of P (get_or (step_of P u.step).refs i 0)
      first_is r fill P b ts refs ps H = W P H.standing.reads H.standing.proper ∙ ap (first_of P) (Q P H.standing.reads)

      abbrev here_first : f ≡ first_of N.pack (get_or (step_of N.pack u.step).refs i 0)
      here_first = first_is N.counts N.fill N.pack N.built N.terms N.refs N.state N.here

      -- its class, and the place of that one's row
      pub word-asked : f < length class
      word-asked =
          subst (λ (n : ℕ). n < length class) (sym here_first)
          (word_there bytes work class words cells c k l N.counts st memo N.fill g env u i from copies N.pack N.built N.terms N.refs N.state N.here N.more)

      pub place-asked : l.rows + get_or class f 0 < length work
      place-asked =
          subst (λ (n : ℕ). l.rows + get_or class n 0 < length work) (sym here_first)
          (place_there bytes work class words cells c k l N.counts st memo N.fill g env u i from copies N.pack N.built N.terms N.refs N.state N.here N.more)

      -- the premise with a row
      abbrev with : ℕ → Premise
      with row = record { step = u.step; rule = u.rule; vars = u.vars; row = row; from = from; copies = copies }

      module _ (row : ℕ) (e : row ≡ row_in work class l f) where
        pub premise_asked : Taking bytes work class words cells c l st memo g env (with row)
        premise_asked =
            subst (λ (n : ℕ). Taking bytes work class words cells c l st memo g env (with n))
            (sym (e ∙ row_read bytes work class words cells c k l N.counts st memo N.fill g env u i from copies N.pack N.built N.terms N.refs N.state N.here N.more f here_first))
            (next_taking bytes work class words cells c k l N.counts st memo N.fill g env u i from copies N.pack N.built N.terms N.refs N.state N.here N.more)

        -- what it comes to
        pub premise_says : (work' cells' : List ℕ) (t : Result (Reached × Id) Refusal) → length cells' ≡ length cells → TakesTo bytes work work' class words cells cells' c l st g env (with row) t
            → Nexts bytes work work' class words cells cells' c k l st memo g env u i from copies t
        premise_says work' cells' (Ok (t, x)) long T = (
          T.0,
          λ r fill P b ts refs ps H.
              let d = e ∙ row_read bytes work class words cells c k l r st memo fill g env u i from copies P b ts refs ps H N.more f (first_is r fill P b ts refs ps H) in
              next_on bytes work class words cells c k l r st memo fill g env u i from copies P b ts refs ps H N.more work' cells' t x long
              (subst (λ (n : ℕ). TakesTo bytes work work' class words cells cells' c l st g env (with n) (Ok (t, x))) d T),
        )
        premise_says work' cells' (Err z) long T = λ r fill P b ts refs ps H.
            let d = e ∙ row_read bytes work class words cells c k l r st memo fill g env u i from copies P b ts refs ps H N.more f (first_is r fill P b ts refs ps H) in
            next-refused bytes work class words cells c k l r st memo fill g env u i from copies P b ts refs ps H N.more work' cells' z
            (subst (λ (n : ℕ). TakesTo bytes work work' class words cells cells' c l st g env (with n) (Err z)) d T)
