-- What the leaves of the search ask follows from a state that the buffers hold.
use Rattle.std.proofs.Common.{ap, arith}
use Rattle.std.specs.Prelude.{ℕ, ◌≤◌, ◌<◌, length, get_or}
use Rattle.definition.specs.Pack.{prop, no_node}
use Rattle.pack_tables.specs.Catalog.{records_of, records_few}
use Rattle.pack_read.specs.Reads.{length_symbols, length-rules}
use Rattle.emission.specs.State.{Emitter}
use Rattle.emit_theory.specs.Search.Proving.{Has, judgment-applied}
use Rattle.emit_state.specs.Holding.{Buffers, World, Holding, Ready}
use Rattle.emit_state.specs.Grown.{store_room}
use Rattle.emit_state.specs.declared.places.Places.{Places}
use Rattle.emit_state.specs.declared.standing.Standing.{Standing}
use Rattle.emit_chains.specs.Follow.{no_number}
use Rattle.emit_search.specs.Rules.{head_in, Headed}
use Rattle.emit_search.specs.Known.{Remembering}
use Rattle.emit_search.specs.Failed.{Failing}

module _ (b : Buffers) (l : Places) (m : Standing) (w : World) (e : Emitter) (H : Holding b l m w e) where
  pub rules-room : length w.setting.pack.rules ≤ l.hand.catalog.cap
  rules-room = omega (arith, records_few b.pack b.work l.hand.catalog 2 H.cataloged (omega arith), length-rules b.pack (records_of b.work l.hand.catalog) w.setting.pack H.reads)

  pub symbols-room : length w.setting.pack.symbols ≤ l.hand.catalog.cap
  symbols-room = omega (arith, records_few b.pack b.work l.hand.catalog 1 H.cataloged (omega arith), length_symbols b.pack (records_of b.work l.hand.catalog) w.setting.pack H.reads)

  pub rules_few : length w.setting.pack.rules ≤ no_number
  rules_few = H.proper.few.rules

  pub remembering : Remembering b.work l m
  remembering = record { laid = H.laid; counted = H.counted; remembers = H.remembers }

  pub failing : (j : ℕ) → j < l.room → Failing b.work l m.failed j
  failing j h = record { laid = H.laid; remembers = H.remembers; below = h }

module _ (b : Buffers) (l : Places) (m : Standing) (w : World) (e : Emitter) (R : Ready b l m w e) (j : ℕ) (h : Has w.setting e prop j) where
  -- the judgment has a word in a map
  pub asked-room : j < l.room
  asked-room = omega (arith, h.stored, store_room b l m w e R.holding)

  -- its head is a symbol
  pub asked-head : head_in b.pattern m.store j < l.hand.catalog.cap
  asked-head =
      let H = R.holding in
      let n = R.sound.sorted j h.stored in
      let k = n.head (judgment-applied w.setting e R.sound j h) in
      let same = ap (λ s. (get_or s j no_node).head) H.nodes_are in
      omega (arith, k, same, symbols-room b l m w e H)

  pub asked-headed : Headed b.work b.pattern l m.store j
  asked-headed = record { stored = R.holding.stored; below = omega (arith, h.stored, ap length R.holding.nodes_are); head = asked-head }
