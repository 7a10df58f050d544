pub mod ReadNodes
