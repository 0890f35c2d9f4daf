-- What a pool has stays where a batch is linked into it; and a dot before a name says nothing.
use Rattle.std.proofs.Common.{◌≡◌, ℕ, ◌+◌, zero, suc, if◌then◌else◌, Some, List, [], ◌∷◌, ◌++◌, length, drop, slice_get, refl, ap, sym, ◌∙◌, arith}
use Rattle.std.specs.FinMap as finite
use Rattle.std.specs.Option.{option_map}
use Rattle.pool_types.specs.Contents.{Contents}
use Rattle.name_resolution.proofs.Fronts.{no_dot}
use Rattle.plain_data.specs.Each.{map_enumerated}
use Rattle.reference_pass.specs.Items.{extension_items, message_items}
use Rattle.pool_contents.specs.Extended.{extended_by}
use Rattle.pool_types.specs.Extension.{extending}
use Rattle.name_pass.specs.Names.{entries, file_entries}
use Rattle.descriptor_pool.specs.Build.{declared_with, setting_with}
use Rattle.descriptor_pool.specs.Pool.{new_files}
use Rattle.pool_laws.specs.Laws.{DotSaysNothing, EarlierStays}
use Rattle.pool_laws.proofs.Relinks.{stays-known}

-- an entry of a list whose entries are changed by their positions, and behind which others come
changed-entry : {X Y : Type 0} (f : ℕ → X → Y) (i : ℕ) (xs ys : List X) (n : ℕ) (x : X) → slice_get xs n ≡ Some x → slice_get (map_enumerated f i (xs ++ ys)) n ≡ Some (f (i + n) x)
changed-entry f i [] ys n x is = absurd (cc)
changed-entry f i (y ∷ xs) ys zero x is = let here : i ≡ i + 0 = omega arith in ap (λ k. Some (f k y)) here ∙ ap (option_map (f (i + 0))) is
changed-entry f i (y ∷ xs) ys (suc n) x is =
    let there : suc i + n ≡ i + suc n = omega arith in changed-entry f (suc i) xs ys n x is ∙ ap (λ k. Some (f k x)) there

pub earlier-stays : (p : Contents) → EarlierStays p
earlier-stays p batch =
    let new = new_files p batch in
    let ds = declared_with p new in
    let s = setting_with p new in
    let came = message_items s ds in
    let xs = drop (length p.extensions) (p.extensions ++ extension_items s ds) in
    record {
      files = (_, refl);
      messages = λ n m is. (extending (0 + n) (length p.extensions) xs, changed-entry (extended_by (length p.extensions) xs) 0 p.messages came n m is);
      enums = (_, refl);
      services = (_, refl);
      extensions = (_, refl);
      names = λ name def is. stays-known p.names (entries ds) name def is;
      file_names = λ name n is. stays-known p.file_names (file_entries ds) name n is;
    }

pub dot-says-nothing : (p : Contents) → DotSaysNothing p
dot-says-nothing p [] other = refl
dot-says-nothing p (c ∷ cs) other =
    let plain = no_dot c (λ is. other cs (ap (λ x. x ∷ cs) is)) in
    sym (ap (λ b. finite.get p.names (if b then cs else c ∷ cs)) plain)
