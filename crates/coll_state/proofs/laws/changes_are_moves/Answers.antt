use Rattle.coll_state.proofs.Links.{put_link, remove_link, create_link, drop_link, drop_db_link, add_index_link, drop_index_link, rename_link, describe_link}
use Rattle.coll_state.proofs.laws.changes_are_moves.Goals as goal

pub returns : goal.returns
returns c = record {
  put = put_link;
  remove = remove_link;
  create = create_link;
  drop_ns = drop_link;
  drop_db = drop_db_link;
  add_index = add_index_link;
  drop_index = drop_index_link;
  rename = rename_link;
  describe = describe_link;
}
