use Rattle.std.proofs.Common.{◌≡◌, length, Some, ◌*◌, ◌+◌, ◌++◌, ◌∷◌, [], ℕ, List, max, refl, ap, ◌∙◌, arith}
use Rattle.pack_geometry.specs.Pack.{with_block}
use Rattle.mass_outside.specs.Sparse.{SparseView, overlaid}
use Rattle.mass_outside.proofs.SparseLaws.{write_some, kept_some, write_none, kept_none, room_none, kept_as}
use Rattle.mass_outside.proofs.sparse.Sparse.write.Goals as goal

pub invariant_of-self : goal.invariant_of-self
invariant_of-self c = (
  kept_as _ _ _ _ _ _ _ _ _ refl refl (c.max-self-inside.ensures ∙ ap (λ n. max c.self.inside.size (512 * n + 512)) c.from.ensures)
      (kept_some _ _ _ c.as_slice.result.now _ _ _ c.args.block c.in-Some.place c.args.from.now c.self.invariant.0 c.as_slice.ensures.value c.in-Some.ensures c.told-from),
  c.self.invariant.1,
  c.self.invariant.2,
  c.self.invariant.3,
)

pub overflow_cast-len : goal.overflow_cast-len
overflow_cast-len c =
    let blocks = ap (λ (s : SparseView). s.blocks) c.self.view_is in
    let room = room_none _ _ _ c.as_slice.result.now _ _ _ c.args.block c.self.invariant.0 c.as_slice.ensures.value c.in-None.ensures (omega (arith, c.requires, blocks)) in
    omega (arith, room, c.self.inside.written.ok.0)

pub put_place-requires-clause-fits : goal.put_place-requires-clause-fits
put_place-requires-clause-fits c =
    let blocks = ap (λ (s : SparseView). s.blocks) c.self.view_is in
    let room = room_none _ _ _ c.as_slice.result.now _ _ _ c.args.block c.self.invariant.0 c.as_slice.ensures.value c.in-None.ensures (omega (arith, c.requires, blocks)) in
    omega (arith, room, c.self.inside.written.ok.0)

pub push_reserved-requires : goal.push_reserved-requires
push_reserved-requires c =
    let blocks = ap (λ (s : SparseView). s.blocks) c.self.view_is in
    let room = room_none _ _ _ c.as_slice.result.now _ _ _ c.args.block c.self.invariant.0 c.as_slice.ensures.value c.in-None.ensures (omega (arith, c.requires, blocks)) in
    omega (arith, room, c.self.inside.written.ok.0, c.self.invariant.1)

pub push_reserved-requires-in-None : goal.push_reserved-requires-in-None
push_reserved-requires-in-None c =
    let blocks = ap (λ (s : SparseView). s.blocks) c.self.view_is in
    let room = room_none _ _ _ c.as_slice.result.now _ _ _ c.args.block c.self.invariant.0 c.as_slice.ensures.value c.in-None.ensures (omega (arith, c.requires, blocks)) in
    omega (arith, room, c.self.inside.kept.ok.0, c.self.invariant.0.each, c.self.invariant.2)

pub invariant_of-self-in-None : goal.invariant_of-self-in-None
invariant_of-self-in-None c =
    let blocks = ap (λ (s : SparseView). s.blocks) c.self.view_is in
    let number : c.len.result ≡ length c.self.inside.written.items = omega (arith, c.len.ensures, c.self.inside.written.ok.0) in (
      kept_as _ _ _ _ _ _ _ _ _ c.push_reserved.ensures.items c.push_reserved-in-None.ensures.items (c.max-self-inside.ensures ∙ ap (λ n. max c.self.inside.size (512 * n + 512)) c.from.ensures)
          (kept_none _ _ _ c.as_slice.result.now c.put_place.new.places.items _ _ _ c.args.block c.args.from.now c.self.invariant.0 c.as_slice.ensures.value c.in-None.ensures c.told-from (omega (arith, c.requires, blocks)) (c.put_place.ensures.kept ∙ ap (λ (n : ℕ). Some n) number) c.put_place.ensures.others),
      omega (arith, c.self.invariant.1, c.push_reserved.ensures.capacity),
      omega (arith, c.self.invariant.2, c.push_reserved-in-None.ensures.capacity),
      omega (arith, c.self.invariant.3, c.put_place.ensures.capacity),
    )

pub returns-in-Some : goal.returns-in-Some
returns-in-Some c =
    ap (λ (image : List ℕ). record { image = image; blocks = c.self.inside.blocks })
    (write_some _ _ _ c.as_slice.result.now _ _ _ c.args.block c.in-Some.place c.args.from.now c.self.invariant.0 c.as_slice.ensures.value c.in-Some.ensures c.told-from)
    ∙ ap (λ (s : SparseView). record { image = with_block s.image c.args.block c.args.from.now; blocks = s.blocks }) c.self.view_is

pub returns-in-None : goal.returns-in-None
returns-in-None c =
    ap (λ (numbers : List ℕ). record { image = overlaid c.self.inside.given.items numbers c.push_reserved-in-None.new.self.items; blocks = c.self.inside.blocks }) c.push_reserved.ensures.items
    ∙ ap (λ (blocks : List (List ℕ)). record { image = overlaid c.self.inside.given.items (c.self.inside.written.items ++ c.args.block ∷ []) blocks; blocks = c.self.inside.blocks }) c.push_reserved-in-None.ensures.items
    ∙ ap (λ (image : List ℕ). record { image = image; blocks = c.self.inside.blocks })
    (write_none _ _ _ c.as_slice.result.now _ _ _ c.args.block c.args.from.now c.self.invariant.0 c.as_slice.ensures.value c.in-None.ensures c.told-from)
    ∙ ap (λ (s : SparseView). record { image = with_block s.image c.args.block c.args.from.now; blocks = s.blocks }) c.self.view_is
