pub mod Chain
pub mod Follow
pub mod FollowLines
pub mod Laws
