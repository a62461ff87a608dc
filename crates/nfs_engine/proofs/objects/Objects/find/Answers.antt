use Rattle.std.proofs.Common.{◌∙◌, ap, option_map, unwrap_or, Option}
use Rattle.std.specs.Option.{option_copied}
use Rattle.std.specs.Arc.{arc_value}
use Rattle.nfs_tables.specs.Tables.{entries}
use Rattle.nfs_engine.proofs.StoreWriteLemmas.{kept-lookup}
use Rattle.nfs_engine.specs.Tables.{KeptValue, ObjectsValue, empty_kept, kept_at, kept_value}
use Rattle.nfs_engine.specs.declared.objects.StoredObject.{StoredObject}
use Rattle.nfs_engine.proofs.objects.Objects.find.Goals as goal

pub returns-in_err-get : goal.returns-in_err-get
returns-in_err-get c =
    ap (option_map arc_value) (ap option_copied c.from_residual.ensures)
    ∙ ap (λ (o : Option StoredObject). (unwrap_or (option_map kept_value o) empty_kept).object)
    c.in_err-get.ensures.value
    ∙ ap (λ (k : KeptValue). k.object) (kept-lookup c.args.address (entries c.self.inside.slots))
    ∙ ap (λ (t : ObjectsValue). (kept_at t.slots c.args.address).object) c.self.view_is

pub returns : goal.returns
returns c =
    ap (option_map arc_value) c.as_ref.ensures.value
    ∙ ap (λ (o : Option StoredObject). (unwrap_or (option_map kept_value o) empty_kept).object)
    c.in_ok-get.ensures.value
    ∙ ap (λ (k : KeptValue). k.object) (kept-lookup c.args.address (entries c.self.inside.slots))
    ∙ ap (λ (t : ObjectsValue). (kept_at t.slots c.args.address).object) c.self.view_is
