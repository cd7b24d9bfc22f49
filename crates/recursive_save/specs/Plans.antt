-- The plan of a new dataset.
use Rattle.std.specs.Prelude.{◌≡◌}
use Rattle.recursive_save.specs.First.{NewDataset, Parts, new_parts, dataset_config, first_id}
use Rattle.recursive_save.specs.declared.first.Plan.{Plan}

-- The texts and objects of a plan.
abbrev pub parts_of : Plan → Parts
parts_of plan = record {
  config = plan.config;
  settings = plan.settings;
  index = plan.index;
  main = plan.main;
  objects = plan.objects.items;
}

-- What a plan of a dataset says.
pub record IsPlan (dataset : NewDataset) (plan : Plan) : Type 0 where
  pub parts : parts_of plan ≡ new_parts dataset
  pub id_is : plan.id.0 ≡ first_id (dataset_config dataset.fresh dataset.root) dataset.moment
