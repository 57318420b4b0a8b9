-- Class building part by part: all made ready, then all classes, then the goals.
use Rattle.std.specs.Prelude.{Some, None, Result, Ok, Err}
use Rattle.std.specs.Prelude.{◌≡◌, refl, List, ℕ, ◌<◌, length}
use Rattle.std.proofs.Common.{sym, ap, ◌∙◌, subst, arith}
use Rattle.definition.specs.Pack.{Pack}
use Rattle.definition.specs.Answer.{Lent}
use Rattle.definition.specs.declared.Refusal.{Refusal}
use Rattle.definition.specs.declared.Refusal.TheVariants as refusals
use Rattle.definition.specs.Store.{nothing}
use Rattle.memo.specs.declared.memo.Memo.{Memo}
use Rattle.store.specs.declared.nodes.Store.{Store}
use Rattle.pack_tables.specs.Catalog.{records_of, Fits}
use Rattle.pack_tables.specs.declared.catalog.Catalog.{Catalog}
use Rattle.pack_read.specs.Reads.{length_steps}
use Rattle.class_keys.specs.declared.classes.Keying.{Keying}
use Rattle.class_keys.specs.declared.classes.Counts.{Counts}
use Rattle.class_premises.specs.declared.layout.Layout.{Layout}
use Rattle.class_premises.specs.Standing.{Standing, standing_held}
use Rattle.class_rule.specs.Done.{Lends}
use Rattle.class_all.specs.All as all
use Rattle.class_premises.specs.declared.building.Building.{Building}
use Rattle.class_premises.specs.declared.building.Counted.{Counted}
use Rattle.class_premises.specs.Buffers.{lent}
use Rattle.class_build.specs.Ready.{Opened, Readies, Starts, unbuilt}
use Rattle.class_build.specs.LeftWords.{class_words_law, class_fits, pattern_words_law, pattern_fits}
use Rattle.class_build.specs.Build.{Ended, TestingIn, EndsIn, Begun, Beginning, Goes, BuildsClasses, Builds, run-unbuilt, run_untested, run-done}
use Rattle.definition.specs.declared.Figures.{Figures}

-- ---- all classes from the first on
module _ (bytes work class words cells : List ℕ) (c : Catalog) (k : Keying) (l : Layout) (r : Counts) (st : Store) (memo : Memo) (fill : ℕ) where
  -- as `make_classes` asks
  begins : (P : Pack) → Begun bytes work class words cells c k l r st memo fill P → all.Begins bytes work class words cells c k l r st memo r.classes fill P (unbuilt P)
  begins P B = record { standing = B.standing; none = refl; counted = refl }

  pub begins_classes : Beginning bytes work class words cells c k l r st memo fill → all.Beginning bytes work class words cells c k l st memo r.classes fill
  begins_classes K = record { counts = r; pack = K.pack; built = unbuilt K.pack; begins = begins K.pack K.begun; small_cells = K.small_cells; small = K.small_class }

  -- one is refused
  pub goes_unbuilt : (work' class' words' cells' : List ℕ) (x : Refusal) → all.Builds bytes work class words cells work' class' words' cells' c k l st memo r.classes fill (Err x) → Goes bytes work class words cells work' class' words' cells' c k l r st memo fill (Err x)
  goes_unbuilt work' class' words' cells' x B P S same L e = same L e.class_long ∙ B r P (unbuilt P) (begins P S) L e

  -- all are made
  module _ (work' class' words' cells' : List ℕ) (s : Building) (t : Counted)
      (B : all.Builds bytes work class words cells work' class' words' cells' c k l st memo r.classes fill (Ok (s, t))) where
    done : (P : Pack) → Begun bytes work class words cells c k l r st memo fill P → all.AllDone class words cells bytes work' class' words' cells' c k l r s.store s.memo s.fill t P (unbuilt P)
    done P S = B.1 r P (unbuilt P) (begins P S)

    ended : (P : Pack) (S : Begun bytes work class words cells c k l r st memo fill P) → Ended bytes work' class' words' cells' c k l r s.store s.fill t P (done P S).built
    ended P S = let D = done P S in record { memo = s.memo; standing = D.standing; all = D.all; summed = D.sums }

    -- the goals may be tested
    testing : Beginning bytes work class words cells c k l r st memo fill → length words' ≡ length words → length cells' ≡ length cells → TestingIn (lent bytes class' words' cells' work') s r t
    testing K w z =
        subst (λ (x : Building). TestingIn (lent bytes class' words' cells' work') x r t) (sym B.0)
        (record { pack = K.pack; built = (done K.pack K.begun).built; ended = ended K.pack K.begun; room = omega (arith, K.room, w, z, B.3.long) })

    pub goes_made : Beginning bytes work class words cells c k l r st memo fill → length words' ≡ length words → length cells' ≡ length cells → Goes bytes work class words cells work' class' words' cells' c k l r st memo fill (Ok (s, r, t))
    goes_made K w z = (
      ap (λ (x : Building). x.catalog) B.0,
      (λ P S same.
          let D = done P S in
          record {
            built = D.built;
            is = λ L e. same L e.class_long ∙ D.is L e;
            ended = subst (λ (x : Building). Ended bytes work' class' words' cells' x.catalog x.keying x.layout r x.store x.fill t P D.built) (sym B.0) (ended P S);
          }),
      testing K w z,
    )

-- ---- all made ready, then all classes
module _ (bytes work class words cells : List ℕ) (c : Catalog) where
  -- the class buffer is too short
  pub classes_short : (work₁ class₁ : List ℕ) → Readies bytes work class words cells work₁ class₁ c None → (work' class' words' cells' : List ℕ)
      → BuildsClasses bytes work class words cells work' class' words' cells' c (Err (refusals.Short 1))
  classes_short work₁ class₁ S work' class' words' cells' P R Q L e = (S P R Q).is L e.class_long

  module _ (work₁ class₁ : List ℕ) (k : Keying) (l : Layout) (r : Counts) (st : Store) (memo : Memo) (long : length class₁ ≡ length class) (S : Readies bytes work class words cells work₁ class₁ c (Some (record { keying = k; layout = l; counts = r; store = st; memo = memo }))) where
    -- the steps may be counted
    pub count_there : Opened bytes work words cells c → Fits work₁ c × (4 < 9)
    count_there O =
        let H = O.held in
        let A = S.0 H.pack H.reads H.proper in
        ((standing_held bytes work₁ class₁ words cells c k l r st memo (length H.pack.steps) H.pack (unbuilt H.pack) A.standing).cataloged.fits, omega arith)

    -- what is lent is as long as it was
    same-lent : (L : Lent) → Lends L class words cells → Lends L class₁ words cells
    same-lent L e = record { class_long = e.class_long ∙ sym long; words_long = e.words_long; cells_long = e.cells_long }

    module _ (fill : ℕ) (filled : fill ≡ length (records_of work₁ c 4)) where
      -- ready for the first class
      begun : (P : Pack) → Starts bytes class words cells work₁ class₁ c k l r st memo P → Begun bytes work₁ class₁ words cells c k l r st memo fill P
      begun P A =
          let e : length P.steps ≡ fill = length_steps bytes (records_of work₁ c) P A.standing.reads ∙ sym filled in
          record { standing = subst (λ (n : ℕ). Standing bytes work₁ class₁ words cells c k l r st memo n P (unbuilt P)) e A.standing }

      pub classes_begin : Opened bytes work words cells c → length class < 4294967296 → length cells < nothing → Beginning bytes work₁ class₁ words cells c k l r st memo fill
      classes_begin O small_class small_cells =
          let H = O.held in
          let A = S.0 H.pack H.reads H.proper in
          record { pack = H.pack; begun = begun H.pack A; room = A.tests; small_class = omega (arith, long); small_cells = small_cells }

      -- what they come to
      pub classes_on : (work' class' words' cells' : List ℕ) (a : Result (Building × Counts × Counted) Refusal) → Goes bytes work₁ class₁ words cells work' class' words' cells' c k l r st memo fill a → BuildsClasses bytes work class words cells work' class' words' cells' c a
      classes_on work' class' words' cells' (Ok (s, n, t)) G = (
        G.0,
        (λ P R Q.
            let A = S.0 P R Q in
            let N = G.1 P (begun P A) (λ L e. A.is L (e ∙ long)) in
            record { built = N.built; is = λ L e. N.is L (same-lent L e); ended = N.ended }),
        G.2,
      )
      classes_on work' class' words' cells' (Err x) G = λ P R Q L e. let A = S.0 P R Q in G P (begun P A) (λ K q. A.is K (q ∙ long)) L (same-lent L e)

-- ---- all classes, then the goals
module _ (bytes work class words cells work' class' words' cells' : List ℕ) (c : Catalog) where
  -- there are no classes
  pub builds_unbuilt : (x : Refusal) → BuildsClasses bytes work class words cells work' class' words' cells' c (Err x) → Builds bytes work class words cells class' words' c (Err x)
  builds_unbuilt x B P R Q L e = run-unbuilt L P x (B P R Q L e)

  -- they are made
  pub builds_ended : (s : Building) (r : Counts) (t : Counted) → BuildsClasses bytes work class words cells work' class' words' cells' c (Ok (s, r, t)) → (a : Result (ℕ × ℕ × Figures) Refusal) → EndsIn (lent bytes class' words' cells' work') s r t a
      → Builds bytes work class words cells class' words' c a
  builds_ended s r t B (Ok (n, m, f)) N = λ P R Q.
      let D = B.1 P R Q in
      let E = D.ended in
      let W = E.standing in
      let G = N.2 P D.built E in
      record {
        built = D.built;
        roots = G.0;
        is = λ L e. run-done L P D.built (D.is L e) G.0 (G.1 L);
        classes = rw N.0 (class_words_law bytes work' class' words' cells' s.catalog s.keying s.layout r s.store E.memo s.fill P D.built W);
        classes_fit = omega (arith, N.0, class_fits bytes work' class' words' cells' s.catalog s.keying s.layout r s.store E.memo s.fill P D.built W);
        patterns = rw N.1 (pattern_words_law bytes work' class' words' cells' s.catalog s.keying s.layout r s.store E.memo s.fill P D.built W);
        patterns_fit = omega (arith, N.1, pattern_fits bytes work' class' words' cells' s.catalog s.keying s.layout r s.store E.memo s.fill P D.built W);
        counted = G.2;
      }
  builds_ended s r t B (Err x) N = λ P R Q L e. let D = B.1 P R Q in run_untested L P D.built (D.is L e) x (N P D.built D.ended L)
