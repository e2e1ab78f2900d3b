-- `count_errors` is right because a text's errors are those of its marks and then those of its body.
use Prim.Native.Nat.{ℕ}
use mathlib.Core.Path.{◌≡◌, refl, ap, ◌∙◌}
use mathlib.Core.List.{List, ◌++◌}
use Rattle.decoder_rules.specs.Pieces.{notes_of}
use Rattle.decoder_marks.proofs.OpenLaws.{opened_errors, opened_fits}
use Rattle.built_figures.specs.Figures.{added}
use Rattle.built_figures.specs.Counting.{Room, error_figures}
use Rattle.built_figures.proofs.BodyLaws.{front_room, rest_room, both_added}
use Rattle.built_figures.proofs.count_errors.Goals as goal

-- the errors of the opening, of the closing and of the body, one after another; the counts before them, after those of the opening
-- and after those of both marks
module _ (all opening closing inside : List (List ℕ)) (is : all ≡ opening ++ (closing ++ inside)) (before opened : List ℕ)
    (room : Room before (error_figures all)) (first : opened ≡ added before (error_figures opening)) where
  room_at_first : Room before (error_figures opening)
  room_at_first = front_room before all opening (closing ++ inside) is room

  rest : Room opened (error_figures (closing ++ inside))
  rest = rw first (rest_room before all opening (closing ++ inside) is room)

  room_then : Room opened (error_figures closing)
  room_then = front_room opened _ closing inside refl rest

  module _ (marked : List ℕ) (second : marked ≡ added opened (error_figures closing)) where
    room_inside : Room marked (error_figures inside)
    room_inside = rw second (rest_room opened _ closing inside refl rest)

    counted : added marked (error_figures inside) ≡ added before (error_figures all)
    counted =
        ap (λ (r : List ℕ). added r (error_figures inside)) second ∙ both_added opened _ closing inside refl rest
        ∙ ap (λ (r : List ℕ). added r (error_figures (closing ++ inside))) first
        ∙ both_added before all opening (closing ++ inside) is room

pub count_error-requires : goal.count_error-requires
count_error-requires c =
    let o = c.open_text-opened in
    let all = opened_errors c.args.e c.args.text.now o.result o.ensures in
    front_room c.args.figures.now _ (notes_of o.result.opening) _ all c.requires

pub count_error-requires-2 : goal.count_error-requires-2
count_error-requires-2 c =
    let o = c.open_text-opened in
    let all = opened_errors c.args.e c.args.text.now o.result o.ensures in
    room_then _ _ (notes_of o.result.closing) _ all _ _ c.requires c.count_error.ensures

pub count_body-requires : goal.count_body-requires
count_body-requires c =
    let o = c.open_text-opened in
    let all = opened_errors c.args.e c.args.text.now o.result o.ensures in
    let fits = opened_fits c.args.e c.args.text.now o.result o.ensures in
    (fits.1, room_inside _ _ _ _ all _ _ c.requires c.count_error.ensures _ c.count_error-2.ensures)

pub returns : goal.returns
returns c =
    let o = c.open_text-opened in
    let all = opened_errors c.args.e c.args.text.now o.result o.ensures in
    c.count_body.ensures ∙ counted _ _ _ _ all _ _ c.requires c.count_error.ensures _ c.count_error-2.ensures
